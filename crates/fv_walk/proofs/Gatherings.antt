-- Blocks that are read together, one after another.
use Rattle.std.proofs.Common.{◌≡◌, ℕ, ◌+◌, ◌<◌, Bool, List, [], ◌∷◌, ◌++◌, length, get_or, refl, sym, ap, subst, ◌∙◌, ⊎_elim, arith}
use Rattle.std.specs.Prelude.{Option, Some, None, map, if◌then◌else◌}
use Rattle.std.proofs.lemmas.Bool.{cases_eq}
use Rattle.std.proofs.lemmas.List.{length-append, get_or_append_left, get_or_default, get_or_push, get_or-map}
use Rattle.fv_codec.specs.Blocks.{node_at, inodes_at}
use Rattle.fv_scan.specs.declared.item.Item.{Item}
use Rattle.fv_scan.specs.declared.item.Judged.{Judged}
use Rattle.fv_scan.specs.Judging.{judgement, judged_inodes, judged_node}
use Rattle.fv_image.specs.Views.{Placed}
use Rattle.fv_faults.specs.Walks.{Ground}
use Rattle.fv_faults.specs.Met.{place_at}
use Rattle.fv_walk.specs.declared.visit.Visit.{Visit}
use Rattle.fv_walk.specs.Visits.{item_of}
use Rattle.fv_walk.specs.Looks.{judged_of}
use Rattle.fv_walk.specs.Gathering.{AtSlot, Each, IsBlockOf, IsKindOf, IsWithin, Kept, OfRead}

module _ (P : Visit → Item → Type 0) where
  pub each_none : (visits : List Visit) (slots : List (Option ℕ)) (items : List Item) → slots ≡ [] → Each P 0 visits slots items
  each_none visits slots items none = record { long = ap length none; each = λ i low v o. absurd (omega (arith, low)) }

  pub is_within : (items : List Item) (v : Visit) (o : Option ℕ) → AtSlot P items v o → IsWithin (length items) o
  is_within items v None at = tt
  is_within items v (Some k) at = at.0

  -- what was read before stays
  stays : (items : List Item) (item : Item) (v : Visit) (o : Option ℕ) → AtSlot P items v o → AtSlot P (items ++ (item ∷ [])) v o
  stays items item v None at = tt
  stays items item v (Some k) at = (
    let low = at.0 in let longer = length-append items (item ∷ []) in omega (arith, low, longer),
    λ d. subst (P v) (sym (get_or_append_left items (item ∷ []) d k at.0)) (at.1 d),
  )

  -- one pointer more
  one_more : (visits : List Visit) (slots : List (Option ℕ)) (old new : List Item) (n : ℕ) (o : Option ℕ)
      → ((v : Visit) (q : Option ℕ) → AtSlot P old v q → AtSlot P new v q) → ((v : Visit) → AtSlot P new (get_or visits n v) o)
      → Each P n visits slots old → Each P (n + 1) visits (slots ++ (o ∷ [])) new
  one_more visits slots old new n o grows here before = record {
    long = let longer = length-append slots (o ∷ []) in let long = before.long in omega (arith, longer, long);
    each = λ i low v q. ⊎_elim
        (λ (is : i ≡ n).
        subst (λ (k : ℕ). AtSlot P new (get_or visits k v) (get_or (slots ++ (o ∷ [])) k q)) (sym is)
        (subst (AtSlot P new (get_or visits n v)) (sym (get_or_push slots o q n before.long)) (here v)))
        (λ other.
        let less : i < n = omega (arith, low, other) in
        let inside : i < length slots = let long = before.long in omega (arith, less, long) in
        subst (AtSlot P new (get_or visits i v)) (sym (get_or_append_left slots (o ∷ []) q i inside)) (grows (get_or visits i v) (get_or slots i q) (before.each i less v q)))
        (cases_eq i n);
  }

  here_now : (items : List Item) (item : Item) (v : Visit) → P v item → AtSlot P (items ++ (item ∷ [])) v (Some (length items))
  here_now items item v holds = (
    let longer = length-append items (item ∷ []) in omega (arith, longer),
    λ d. subst (P v) (sym (get_or_push items item d (length items) refl)) holds,
  )

  kept : (visits : List Visit) (n : ℕ) (read : Option Item) (ss : List (Option ℕ)) (is : List Item) (ts : List (Option ℕ)) (js : List Item)
      → ((v : Visit) → OfRead P (get_or visits n v) read) → Kept read ss is ts js → Each P n visits ss is → Each P (n + 1) visits ts js
  kept visits n None ss is ts js holds keeps before =
      subst (λ (us : List (Option ℕ)). Each P (n + 1) visits us js) (sym keeps.0)
      (subst (Each P (n + 1) visits (ss ++ (None ∷ []))) (sym keeps.1) (one_more visits ss is is n None (λ v q at. at) (λ v. tt) before))
  kept visits n (Some item) ss is ts js holds keeps before =
      subst (λ (us : List (Option ℕ)). Each P (n + 1) visits us js) (sym keeps.0)
      (subst (Each P (n + 1) visits (ss ++ (Some (length is) ∷ []))) (sym keeps.1)
      (one_more visits ss is (is ++ (item ∷ [])) n (Some (length is)) (stays is item) (λ v. here_now is item (get_or visits n v) (holds v)) before))

  pub kept_more : (visits : List Visit) (n : ℕ) (d : Visit) (read : Option Item) (ss : List (Option ℕ)) (is : List Item) (ts : List (Option ℕ)) (js : List Item)
      → n < length visits → OfRead P (get_or visits n d) read → Kept read ss is ts js → Each P n visits ss is → Each P (n + 1) visits ts js
  kept_more visits n d read ss is ts js low holds keeps before =
      kept visits n read ss is ts js (λ v. subst (λ w. OfRead P w read) (get_or_default visits n d v low) holds) keeps before

  -- under other names
  pub kept_as : (visits : List Visit) (n : ℕ) (ss ts : List (Option ℕ)) (is js : List Item) → ts ≡ ss → js ≡ is → Each P n visits ss is → Each P n visits ts js
  kept_as visits n ss ts is js slots items each = subst (λ us. Each P n visits us js) (sym slots) (subst (Each P n visits ss) (sym items) each)

  pub all_kept : (n : ℕ) (visits : List Visit) (slots : List (Option ℕ)) (items : List Item) → n ≡ length visits → Each P n visits slots items → Each P (length visits) visits slots items
  all_kept n visits slots items all each = subst (λ (k : ℕ). Each P k visits slots items) all each

-- what is said of a block that was judged with others
pub judged_at : (items : List Item) (judged : List Judged) (k : ℕ) (d : Item) (e : Judged) (v : Visit) → judged ≡ map judgement items → k < length items → IsKindOf v (get_or items k d)
    → get_or judged k e ≡ judged_of v.level (get_or items k d).body
unfolding judgement
judged_at items judged k d e v are low kind =
    ap (λ (js : List Judged). get_or js k e) are
    ∙ get_or-map judgement items k d e low
    ∙ ap (λ (b : Bool). if b then judged_inodes (inodes_at (get_or items k d).body) else judged_node (node_at (get_or items k d).body)) kind

-- ---- the block of a slot

module _ (rs slots : List (Option ℕ)) (i k : ℕ) (o : Option ℕ) (same : rs ≡ slots) (is : get_or rs i o ≡ Some k) where
  number : get_or slots i o ≡ Some k
  number = ap (λ (ts : List (Option ℕ)). get_or ts i o) (sym same) ∙ is

  pub within_at : (n : ℕ) → ((q : Option ℕ) → IsWithin n (get_or slots i q)) → k < n
  within_at n each = subst (IsWithin n) number (each o)

  at_slot : (P : Visit → Item → Type 0) (items : List Item) (v : Visit) → ((q : Option ℕ) → AtSlot P items v (get_or slots i q)) → AtSlot P items v (Some k)
  at_slot P items v each = subst (AtSlot P items v) number (each o)

  pub at_judged : (items js : List Item) (judged ks : List Judged) (d : Item) (e : Judged) (v : Visit) → js ≡ items → ks ≡ judged → judged ≡ map judgement items
      → ((q : Option ℕ) → AtSlot IsKindOf items v (get_or slots i q)) → get_or ks k e ≡ judged_of v.level (get_or js k d).body
  at_judged items js judged ks d e v same_items same_judged are each =
      let at : AtSlot IsKindOf items v (Some k) = at_slot IsKindOf items v each in
      subst (λ (xs : List Judged). get_or xs k e ≡ judged_of v.level (get_or js k d).body) (sym same_judged)
      (subst (λ (xs : List Item). get_or judged k e ≡ judged_of v.level (get_or xs k d).body) (sym same_items) (judged_at items judged k d e v are at.0 (at.1 d)))

  pub at_block : (g : Ground) (items js : List Item) (d : Item) (v : Visit) → js ≡ items → ((q : Option ℕ) → AtSlot (IsBlockOf g) items v (get_or slots i q))
      → (x : Placed) → place_at g (item_of v) ≡ Some x → (get_or js k d).body ≡ x.block
  at_block g items js d v same_items each x found =
      let at : AtSlot (IsBlockOf g) items v (Some k) = at_slot (IsBlockOf g) items v each in
      subst (λ (xs : List Item). (get_or xs k d).body ≡ x.block) (sym same_items) (at.1 d x found)
