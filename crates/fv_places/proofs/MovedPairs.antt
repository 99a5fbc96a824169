-- The items of a root of the volume in which a block moved, before and after: each stands as it stood, or in the new block.
use Rattle.std.proofs.Common.{◌≡◌, ◌≢◌, ℕ, Bool, true, List, sym, ap, subst, ◌∙◌, get_or}
use Rattle.std.specs.Prelude.{Option}
use Rattle.std.specs.List.{list_all}
use Rattle.fv_laws.proofs.Lists.{In}
use Rattle.fv_tables.specs.Spelled.{hole, pointers_in}
use Rattle.fv_tables.specs.Told.{records_in, free_record}
use Rattle.fv_tables.specs.Reached.{Item, items}
use Rattle.fv_image.specs.Views.{Placed, Rooted, View, kind_at}
use Rattle.fv_image.specs.Chains.{place, under}
use Rattle.fv_image.specs.Volumes.{standing_of}
use Rattle.fv_image.specs.Moves.{Moves, FitsRoot}
use Rattle.fv_image.proofs.Moved.{alike_here, under_here, under_now}
use Rattle.fv_places.specs.Inside.{StandsIn}
use Rattle.fv_places.specs.Origins.{IsPair, Beside, SpellsInside}
use Rattle.fv_places.proofs.Fitting.{in_node_block, in_inode_block, no_leaf, inode_kind, file_node}
use Rattle.fv_places.proofs.Pairs.{all_beside, by_pairs}

module _ (w u : View) (s v : ℕ) (was now : Placed) (moves : Moves w u s v was now) (r : Rooted) (fit : FitsRoot w s r) where
  -- what leads to v leads to a block of the new one's kind
  here_kind : (q : ℕ) → q ≡ v → kind_at (place w s q) ≡ now.kind
  here_kind q at = ap (λ (n : ℕ). kind_at (place w s n)) at ∙ ap kind_at moves.there ∙ sym moves.kind

  -- what the new block spells stands in it, by its kind
  inside : SpellsInside (under w s) r.levels r.root (StandsIn now) v (under u s v)
  inside = record {
    nodes =
        λ level p low some at i. let kinds = no_leaf level now.kind low (sym (here_kind _ at) ∙ inode_kind w s r fit level p some) in
        in_node i kinds.0 kinds.1;
    inodes = λ p some at i. subst (λ (o : Option (List ℕ)). StandsIn now (get_or (records_in o) i free_record).root)
        (sym (under_now w u s v was now moves))
        (in_inode_block now i (sym (here_kind _ at) ∙ inode_kind w s r fit 0 p some));
    file_nodes =
        λ k f there level p low some at i. let kinds = file_node w s r fit k f there level p low some in
        in_node i (λ e. kinds.0 (here_kind _ at ∙ e)) (λ e. kinds.1 (here_kind _ at ∙ e));
  }
    where
      in_node : (i : ℕ) → now.kind ≢ 1 → now.kind ≢ 5 → StandsIn now (get_or (pointers_in (under u s v)) i hole)
      in_node i one five =
          subst (λ (o : Option (List ℕ)). StandsIn now (get_or (pointers_in o) i hole)) (sym (under_now w u s v was now moves))
          (in_node_block now i one five)

  -- Each item stands beside what it was.
  pub moved_beside : Beside (IsPair (StandsIn now) v) (items (standing_of w s r)) (items (standing_of u s r))
  moved_beside =
      all_beside (under w s) (under u s) v (under_here w u s v was now moves) (StandsIn now) r.levels r.root
      (alike_here w u s v was now moves r fit) inside

  -- so what holds of each by what it was holds of all
  pub moved_pairs : (test : Item → Bool) → ((e f : Item) → IsPair (StandsIn now) v e f → In e (items (standing_of w s r)) → test f ≡ true)
      → list_all test (items (standing_of u s r)) ≡ true
  moved_pairs =
      by_pairs (under w s) (under u s) v (under_here w u s v was now moves) (StandsIn now) r.levels r.root
      (alike_here w u s v was now moves r fit) inside
