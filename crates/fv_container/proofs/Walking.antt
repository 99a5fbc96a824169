-- How the walk by hand of a function begins and ends. Assumes `Logic`.
use Rattle.std.proofs.Common.{[], ◌∷◌}
use seplogic.Ra.Ura.{Ura}
use mir.Syntax.{Fn, Callee}
use mir.Val.{Val}
use base.Logic.{ent, sep}
use prog.Wp.{WpFn, Closed}
use prog.Model.{Model}
use types.Logic.{Logic, sem}
use types.Kit.{‵, raw, ◌$◌, ◌∵◌, !, qed, move, join, suffices, done}
use contract.Lifetimes.{Lfts, Shares, AllOutlive}
use contract.Running.{Running, MachineTables, tables, tables_of}
use sound.WpLaws.{WpFn-mono}
use denote.RattleType.{flat}
use denote.Laws.{Spells, Tellss, Ises, Are, valss}
use denote.Signature.{Signature, types_at, type_at}
use denote.Triple.Clauses.{Ended, Clauses, closing, Lasts, at_exit}
use denote.Triple.Entry.{Args, Res, on_entry, alive}
use denote.Triple.Spec.{Meets, triple_of}
use denote.Triple.Table.{entered}
use denote.Triple.Walked.{Stays, AllGo, Fit, has_of, walk_of, walked, walk_Meets, ends_at}

module _ {M : Type 1} {𝓤 : Ura M} (𝓛 : Logic 𝓤) (T : Ended) (hs : Stays T.signature.params T.kept) (c : Clauses 𝓤 T) where
  open 𝓛 use {H}

  abbrev S : Signature
  S = T.signature

  -- the lifetimes that go on, what is left of the parameters, the result and its clauses make the end of a walk
  pub leaves : (y : (walk_of 𝓛 T hs c).Ghost) (v : Val) (r : Res S y.0.0) (ws : Lasts T y.0.0 y.0.3) → Fit T hs y.0.0 y.0.3 ws
      → ent 𝓤 (sep 𝓤 (alive 𝓛 S y.0.0 y.0.1) (sep 𝓤 (sem 𝓛 (has_of y.0.0 S.params T.kept hs y.0.3 ws y.0.4)) (sep 𝓤 (sem 𝓛 ((type_at S.result y.0.0).own_val r (v ∷ [])))
      ((c y.0.0 y.0.3).ensures y.1 r (at_exit T y.0.0 y.0.3 ws))))) ((walk_of 𝓛 T hs c).post y v)
  leaves y v r ws fit = qed 𝓛 (raw (alive 𝓛 S y.0.0 y.0.1) ∷ ‵ (has_of y.0.0 S.params T.kept hs y.0.3 ws y.0.4) ∷ ‵ ((type_at S.result y.0.0).own_val r (v ∷ []))
      ∷ raw ((c y.0.0 y.0.3).ensures y.1 r (at_exit T y.0.0 y.0.3 ws)) ∷ []) ∵ suffices ! _ (ends_at 𝓛 T hs c y v r ws fit) $ move ! (1 ∷ 2 ∷ []) $ join ! $ move ! (1 ∷ 0 ∷ []) $ join ! $ done !

  module _ (𝓜 : Model 𝓤 H) (𝓡 : Running 𝓤 H 𝓜) where
    abbrev 𝓣 : MachineTables 𝓤 H 𝓜
    𝓣 = tables 𝓤 H 𝓜 𝓡 𝓡.env

    -- a function that is walked from its clauses to such an end meets them
    pub proved : AllGo 𝓛 S.lifetimes S.params T.kept hs → (k : Callee) (e : Fn) → Closed 𝓤 H 𝓣.C 𝓣.Λ k e
        → (sp : (κs : Lfts S.lifetimes) → Spells (types_at S.params κs)) → ((κs : Lfts S.lifetimes) → Tellss (types_at S.params κs) (Ises (types_at S.params κs)) (sp κs))
        → ((κs : Lfts S.lifetimes) (qs : Shares S.lifetimes) (bounds : AllOutlive S.lifetimes S.outlives κs) (a : Args S κs) (g : (c κs a).ghost)
        → Are (types_at S.params κs) (Ises (types_at S.params κs)) a (valss (types_at S.params κs) (sp κs) a)
        → ent 𝓤 (sep 𝓤 (on_entry 𝓛 S κs qs a (valss (types_at S.params κs) (sp κs) a)) ((c κs a).requires g))
        (WpFn 𝓤 H 𝓣.C 𝓣.Λ e (flat (types_at S.params κs) (valss (types_at S.params κs) (sp κs) a)) ((walk_of 𝓛 T hs c).post ((κs, qs, bounds, a, valss (types_at S.params κs) (sp κs) a), g))))
        → Meets 𝓛 S (𝓣.C k) (closing 𝓛 T c)
    unfolding tables_of
    proved go k e closed sp tells walk = entered 𝓤 H (triple_of 𝓛 S (closing 𝓛 T c)) 𝓣.C 𝓣.Λ k e closed
        (walk_Meets 𝓛 T hs go c (WpFn 𝓤 H 𝓣.C 𝓣.Λ e) (WpFn-mono 𝓤 H 𝓛.laws (tables_of 𝓤 H 𝓜 𝓣) e) (walked 𝓛 T hs c (WpFn 𝓤 H 𝓣.C 𝓣.Λ e) sp tells walk))
