-- Lists that have the same lines.
use Rattle.std.proofs.Common.{◌≡◌, List, ◌++◌, sym, subst, ⊎_elim}
use Rattle.std.specs.Prelude.{flat_map}
use Rattle.fv_laws.proofs.Lists.{In, in_left, in_right, in_either}
use Rattle.fv_faults.specs.declared.fault.Fault.{Fault}
use Rattle.fv_faults.specs.declared.lines.Lines.{Lines}
use Rattle.fv_faults.specs.Adding.{Adds}
use Rattle.fv_faults.proofs.LinesAlong.{gathered, spread}
use Rattle.fv_faults.proofs.Adding.{same_added}

pub record Same (xs ys : List Fault) : Type 0 where
  pub to : (f : Fault) → In f xs → In f ys
  pub from : (f : Fault) → In f ys → In f xs

pub same_is : (xs ys : List Fault) → xs ≡ ys → Same xs ys
same_is xs ys is = record { to = λ f there. subst (In f) is there; from = λ f there. subst (In f) (sym is) there }

pub same_then : (xs ys zs : List Fault) → Same xs ys → Same ys zs → Same xs zs
same_then xs ys zs a b = record { to = λ f there. b.to f (a.to f there); from = λ f there. a.from f (b.from f there) }

pub same_back : (xs ys : List Fault) → Same xs ys → Same ys xs
same_back xs ys a = record { to = a.from; from = a.to }

joined : (a b c d : List Fault) → ((f : Fault) → In f a → In f c) → ((f : Fault) → In f b → In f d) → (f : Fault) → In f (a ++ b) → In f (c ++ d)
joined a b c d first second f there = ⊎_elim (λ one. in_left f c d (first f one)) (λ two. in_right f c d (second f two)) (in_either f a b there)

pub same_both : (a b c d : List Fault) → Same a c → Same b d → Same (a ++ b) (c ++ d)
same_both a b c d first second = record { to = joined a b c d first.to second.to; from = joined c d a b first.from second.from }

crossed : (a b c d : List Fault) (f : Fault) → In f ((a ++ b) ++ (c ++ d)) → In f ((a ++ c) ++ (b ++ d))
crossed a b c d f there = ⊎_elim
    (λ one. ⊎_elim (λ here. in_left f (a ++ c) (b ++ d) (in_left f a c here)) (λ here. in_right f (a ++ c) (b ++ d) (in_left f b d here)) (in_either f a b one))
    (λ two. ⊎_elim (λ here. in_left f (a ++ c) (b ++ d) (in_right f a c here)) (λ here. in_right f (a ++ c) (b ++ d) (in_right f b d here)) (in_either f c d two))
    (in_either f (a ++ b) (c ++ d) there)

pub same_crossed : (a b c d : List Fault) → Same ((a ++ b) ++ (c ++ d)) ((a ++ c) ++ (b ++ d))
same_crossed a b c d = record { to = crossed a b c d; from = crossed a c b d }

pub same_spread : {X : Type 0} (a b : X → List Fault) (xs : List X) → Same (flat_map (λ x. a x ++ b x) xs) (flat_map a xs ++ flat_map b xs)
same_spread a b xs = record { to = λ f there. spread a b xs f there; from = λ f there. gathered a b xs f there }

pub same_adds : (xs ys : List Fault) (old new : Lines) → Same xs ys → Adds xs old new → Adds ys old new
same_adds xs ys old new same adds = same_added xs ys old new same.to same.from adds

-- What is noted of the table of a root, in two orders: reach, kinds, marks, levels of files, stamps, lengths and the levels of the inode file.
module _ (r k m l s n t : List Fault) where
  abbrev noted : List Fault
  noted = r ++ (((k ++ (m ++ l)) ++ s) ++ (n ++ t))

  abbrev said : List Fault
  said = (r ++ (k ++ (m ++ (n ++ (t ++ l))))) ++ s

  abbrev rest : List Fault
  rest = r ++ (k ++ (m ++ (n ++ (t ++ l))))

  module _ (f : Fault) where
    r_to : In f r → In f said
    r_to there = in_left f rest s (in_left f r _ there)

    k_to : In f k → In f said
    k_to there = in_left f rest s (in_right f r _ (in_left f k _ there))

    m_to : In f m → In f said
    m_to there = in_left f rest s (in_right f r _ (in_right f k _ (in_left f m _ there)))

    n_to : In f n → In f said
    n_to there = in_left f rest s (in_right f r _ (in_right f k _ (in_right f m _ (in_left f n _ there))))

    t_to : In f t → In f said
    t_to there = in_left f rest s (in_right f r _ (in_right f k _ (in_right f m _ (in_right f n _ (in_left f t _ there)))))

    l_to : In f l → In f said
    l_to there = in_left f rest s (in_right f r _ (in_right f k _ (in_right f m _ (in_right f n _ (in_right f t _ there)))))

    s_to : In f s → In f said
    s_to there = in_right f rest s there

    noted_to : In f noted → In f said
    noted_to there = ⊎_elim r_to
        (λ more. ⊎_elim
        (λ one. ⊎_elim (λ two. ⊎_elim k_to (λ three. ⊎_elim m_to l_to (in_either f m l three)) (in_either f k (m ++ l) two)) s_to (in_either f (k ++ (m ++ l)) s one))
        (λ one. ⊎_elim n_to t_to (in_either f n t one))
        (in_either f ((k ++ (m ++ l)) ++ s) (n ++ t) more))
        (in_either f r (((k ++ (m ++ l)) ++ s) ++ (n ++ t)) there)

    r_from : In f r → In f noted
    r_from there = in_left f r _ there

    k_from : In f k → In f noted
    k_from there = in_right f r _ (in_left f ((k ++ (m ++ l)) ++ s) (n ++ t) (in_left f (k ++ (m ++ l)) s (in_left f k (m ++ l) there)))

    m_from : In f m → In f noted
    m_from there = in_right f r _ (in_left f ((k ++ (m ++ l)) ++ s) (n ++ t) (in_left f (k ++ (m ++ l)) s (in_right f k (m ++ l) (in_left f m l there))))

    l_from : In f l → In f noted
    l_from there = in_right f r _ (in_left f ((k ++ (m ++ l)) ++ s) (n ++ t) (in_left f (k ++ (m ++ l)) s (in_right f k (m ++ l) (in_right f m l there))))

    s_from : In f s → In f noted
    s_from there = in_right f r _ (in_left f ((k ++ (m ++ l)) ++ s) (n ++ t) (in_right f (k ++ (m ++ l)) s there))

    n_from : In f n → In f noted
    n_from there = in_right f r _ (in_right f ((k ++ (m ++ l)) ++ s) (n ++ t) (in_left f n t there))

    t_from : In f t → In f noted
    t_from there = in_right f r _ (in_right f ((k ++ (m ++ l)) ++ s) (n ++ t) (in_right f n t there))

    said_from : In f said → In f noted
    said_from there = ⊎_elim
        (λ most. ⊎_elim r_from
        (λ more. ⊎_elim k_from
        (λ two. ⊎_elim m_from
        (λ three. ⊎_elim n_from (λ four. ⊎_elim t_from l_from (in_either f t l four)) (in_either f n (t ++ l) three))
        (in_either f m (n ++ (t ++ l)) two))
        (in_either f k (m ++ (n ++ (t ++ l))) more))
        (in_either f r (k ++ (m ++ (n ++ (t ++ l)))) most))
        s_from
        (in_either f rest s there)

  pub same_table : Same noted said
  same_table = record { to = noted_to; from = said_from }
