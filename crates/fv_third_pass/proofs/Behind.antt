-- In a walk without stops each cell of a file comes behind the block of its record, and no other records come between.
use Rattle.std.proofs.Common.{◌≡◌, ◌≢◌, ℕ, zero, suc, ◌+◌, ◌-◌, ◌*◌, ◌/◌, ◌%◌, ◌<◌, Bool, true, false, not, List, [], ◌∷◌, ◌++◌, length, get_or, map, inl, inr, refl, sym, ap, subst, ◌∙◌, arith, Result, Ok, Err}
use Rattle.std.specs.Prelude.{flat_map, Option, Some, None, ◌&&◌, ◌||◌, ◌==◌, if◌then◌else◌}
use Rattle.std.specs.List.{enumerate_from}
use Rattle.std.specs.Option.{option_map_or}
use Rattle.std.proofs.lemmas.Bool.Decides.{nat_tests}
use Rattle.std.proofs.lemmas.List.{map-append}
use Rattle.std.proofs.lemmas.List.Concat.{flat_map-append}
use Rattle.fv_codec.specs.declared.shape.Shape.{Shape}
use Rattle.fv_codec.specs.declared.node.Node.{Node}
use Rattle.fv_codec.specs.declared.inode.InodeBlock.{InodeBlock}
use Rattle.fv_codec.specs.declared.inode.InodeRecord.{InodeRecord}
use Rattle.fv_codec.specs.Blocks.{greatest_word, inodes_at, node_at}
use Rattle.fv_laws.proofs.Lists.{In, from_map, in_flat_map}
use Rattle.fv_tables.specs.Told.{free_record, records_each}
use Rattle.fv_tables.specs.Reached.{Item}
use Rattle.fv_image.specs.Views.{Placed, Rooted}
use Rattle.fv_image.proofs.WellNodes.{files_of as files_long}
use Rattle.fv_faults.specs.declared.fault.Fault.{Fault}
use Rattle.fv_faults.specs.Walks.{Ground, child_of, children_of, file_root, files_of, files_under, pointers_under, root_item, used_from}
use Rattle.fv_faults.specs.Met.{Spot, files_met, met, no_more, place_at, plain, plain_one}
use Rattle.fv_walk.specs.declared.below.Below.TheVariants.{Nothing}
use Rattle.fv_walk.specs.Blocks.{files_at}
use Rattle.fv_walk.specs.Sights.{Sight, below_of, inodes_in, node_in, sight_of, spelled}
use Rattle.fv_walk.specs.Visits.{item_of, leads_on, visit_of}
use Rattle.fv_walk.proofs.Blocks.{spelled_files}
use Rattle.fv_third_pass.specs.declared.lengths.Records.{Records}
use Rattle.fv_third_pass.specs.Lengths.{length_if, length_in, lengths_along, records_after, records_behind}
use Rattle.fv_third_pass.specs.LengthJudges.{along_both, behind_both}

abbrev pub File : Type 0
File = ℕ × InodeRecord

-- the files whose records stand in the block that is seen
abbrev pub files_seen : Sight → List File
files_seen s = files_at (item_of s.visit) s.below

-- ---- the records of a block

record IsRecord (a : ℕ) (rs : List InodeRecord) (f : File) : Type 0 where
  slot : ℕ
  inside : slot < length rs
  is : f ≡ (a + slot, get_or rs slot free_record)

used_at : (a : ℕ) (rs : List InodeRecord) (f : File) → In f (used_from a rs) → IsRecord a rs f
unfolding used_from
used_at a [] f there = absurd there
used_at a (r ∷ rs) f there = so (λ later. used_at (a + 1) rs f later) (r.name_length == 0) there
  where
    next : IsRecord (a + 1) rs f → IsRecord a (r ∷ rs) f
    next at =
        let low = at.inside in
        let shift : a + 1 + at.slot ≡ a + suc at.slot = omega arith in
        record { slot = suc at.slot; inside = omega (arith, low); is = at.is ∙ ap (λ (n : ℕ). (n, get_or rs at.slot free_record)) shift }

    so : (In f (used_from (a + 1) rs) → IsRecord (a + 1) rs f) → (b : Bool) → In f (if b then used_from (a + 1) rs else (a, r) ∷ used_from (a + 1) rs) → IsRecord a (r ∷ rs) f
    so rest true there = next (rest there)
    so rest false (inl same) = record { slot = 0; inside = omega arith; is = sym same ∙ ap (λ (n : ℕ). (n, r)) (let shift : a ≡ a + 0 = omega arith in shift) }
    so rest false (inr there) = next (rest there)

length_there : (p : ℕ) (b : InodeBlock) → length b.files ≡ 16 → (f : File) → In f (used_from (records_each * p) b.files) → length_in (Some (record { place = p; block = b })) f.0 ≡ Some f.1.length
length_there p b all f there =
    let at = used_at (records_each * p) b.files f there in
    let number : f.0 ≡ records_each * p + at.slot = ap (λ (h : File). h.0) at.is in
    let low : at.slot < 16 = (let inside = at.inside in omega (arith, inside, all)) in
    let home : f.0 / records_each ≡ p = omega (arith, number, low) in
    let test : (f.0 / records_each == p) ≡ true = grind (arith, nat_tests, home) in
    let slot : f.0 % records_each ≡ at.slot = omega (arith, number, low) in
    ap (λ (t : Bool). if t then Some (get_or b.files (f.0 % records_each) free_record).length else None) test
    ∙ ap (λ (n : ℕ). Some (get_or b.files n free_record).length) slot
    ∙ ap (λ (h : File). Some h.1.length) (sym at.is)

-- ---- what is said along a walk, and what is said by the lengths of all files

module _ (g : Ground) (long : ℕ → Option ℕ) where
  abbrev pub said : Spot → List Fault
  said p = if leads_on (visit_of p) then [] else length_if p.1 p.0.place (long p.0.owner)

  -- the lengths are those of the files whose records are seen, and no file has the inode file's number
  abbrev pub AreKnown : List Spot → Type 0
  AreKnown ps = (p : Spot) → In p ps → (f : File) → In f (files_seen (sight_of g p)) → (f.0 ≢ greatest_word) × (long f.0 ≡ Some f.1.length)

  abbrev along : Option Records → List Spot → List Fault
  along r ps = lengths_along r (map (sight_of g) ps)

  abbrev behind : Option Records → List Spot → Option Records
  behind r ps = records_behind r (map (sight_of g) ps)

  abbrev after : Option Records → Spot → Option Placed → Option Records
  after r p o = records_after r (visit_of p) (below_of p.0 o)

  along_two : (r : Option Records) (ps qs : List Spot) → along r (ps ++ qs) ≡ along r ps ++ along (behind r ps) qs
  along_two r ps qs = ap (lengths_along r) (map-append (sight_of g) ps qs) ∙ along_both r (map (sight_of g) ps) (map (sight_of g) qs)

  behind_two : (r : Option Records) (ps qs : List Spot) → behind r (ps ++ qs) ≡ behind (behind r ps) qs
  behind_two r ps qs = ap (records_behind r) (map-append (sight_of g) ps qs) ∙ behind_both r (map (sight_of g) ps) (map (sight_of g) qs)

  -- ---- the tree of a file

  record Stays (r : Option Records) (ps : List Spot) : Type 0 where
    lines : along r ps ≡ flat_map said ps
    records : behind r ps ≡ r

  stays_none : (r : Option Records) → Stays r []
  stays_none r = record { lines = refl; records = refl }

  stays_both : (r : Option Records) (ps qs : List Spot) → Stays r ps → Stays r qs → Stays r (ps ++ qs)
  stays_both r ps qs one two = record {
    lines =
        along_two r ps qs
        ∙ ap (λ (ls : List Fault). ls ++ along (behind r ps) qs) one.lines
        ∙ ap (λ (q : Option Records). flat_map said ps ++ along q qs) one.records
        ∙ ap (λ (ls : List Fault). flat_map said ps ++ ls) two.lines
        ∙ sym (flat_map-append said ps qs);
    records = behind_two r ps qs ∙ ap (λ (q : Option Records). behind q qs) one.records ∙ two.records;
  }

  stays_each : (r : Option Records) (f : Item → List Spot) (cs : List Item) → ((c : Item) → In c cs → Stays r (f c)) → Stays r (flat_map f cs)
  stays_each r f [] each = stays_none r
  stays_each r f (c ∷ cs) each = stays_both r (f c) (flat_map f cs) (each c (inl refl)) (stays_each r f cs (λ d there. each d (inr there)))

  -- no records stand in its blocks
  no_records : (r : Option Records) (e : Item) (block : ℕ) → (e.owner == greatest_word) ≡ false → (o : Option Placed) → after r (e, block) o ≡ r
  unfolding below_of spelled
  no_records r e block other None = refl
  no_records r e block other (Some x) = so (e.level == 0) (e.owner == greatest_word) other (node_at x.block)
    where
      so : (cell inodes : Bool) → inodes ≡ false → (n : Result Node Shape)
          → records_after r (visit_of (e, block)) (if cell then (if inodes then inodes_in (inodes_at x.block) else Nothing) else node_in n) ≡ r
      so true true is n = absurd cc
      so true false is n = refl
      so false inodes is (Ok n) = refl
      so false inodes is (Err shape) = refl

  -- its pointers are all its own
  own_under : (e : Item) (x : Placed) → (e.owner == greatest_word) ≡ false → (c : Item) → In c (pointers_under e x) → c.owner ≡ e.owner
  unfolding pointers_under files_under
  own_under e x other c there = so (e.level == 0) (e.owner == greatest_word) other (node_at x.block) there
    where
      so : (cell inodes : Bool) → inodes ≡ false → (n : Result Node Shape)
          → In c (if cell then map (file_root e) (if cell && inodes then files_of e.place (inodes_at x.block) else []) else children_of e n) → c.owner ≡ e.owner
      so true true is n there = absurd cc
      so true false is n there = absurd there
      so false inodes is (Ok n) there = let at = from_map (child_of e) c (enumerate_from 0 n.children) there in ap (λ (i : Item). i.owner) (sym at.2)
      so false inodes is (Err shape) there = absurd there

  stays_one : (r : Option Records) (below : Item → Placed → List Spot) (e : Item) (block : ℕ) → (e.owner == greatest_word) ≡ false → length_in r e.owner ≡ long e.owner
      → ((x : Placed) → Stays r (below e x)) → Stays r (plain_one g below e block)
  stays_one r below e block other known each = so (e.pointer.stamp == 0)
    where
      rest : (o : Option Placed) → Stays r (option_map_or (below e) o [])
      rest None = stays_none r
      rest (Some x) = each x

      here : Stays r ((e, block) ∷ [])
      here = record {
        lines = ap (λ (o : Option ℕ). (if leads_on (visit_of (e, block)) then [] else length_if block e.place o) ++ []) known;
        records = no_records r e block other (place_at g e);
      }

      so : (b : Bool) → Stays r (if b then [] else (e, block) ∷ option_map_or (below e) (place_at g e) [])
      so true = stays_none r
      so false = stays_both r ((e, block) ∷ []) (option_map_or (below e) (place_at g e) []) here (rest (place_at g e))

  stays_tree : (r : Option Records) (level : ℕ) (e : Item) (block : ℕ) → (e.owner == greatest_word) ≡ false → length_in r e.owner ≡ long e.owner → Stays r (plain g no_more level e block)
  unfolding plain
  stays_tree r zero e block other known = stays_one r no_more e block other known (λ x. stays_none r)
  stays_tree r (suc level) e block other known =
      stays_one r (λ e x. flat_map (λ c. plain g no_more level c x.pvbn) (pointers_under e x)) e block other known
      (λ x. stays_each r (λ c. plain g no_more level c x.pvbn) (pointers_under e x) (λ c there.
      let own : c.owner ≡ e.owner = own_under e x other c there in
      stays_tree r level c x.pvbn (ap (λ (n : ℕ). n == greatest_word) own ∙ other) (ap (length_in r) own ∙ known ∙ ap long (sym own))))

  -- ---- the tree of the inode file

  abbrev IsSaid : List Spot → Type 0
  IsSaid ps = (r : Option Records) → along r ps ≡ flat_map said ps

  said_both : (ps qs : List Spot) → IsSaid ps → IsSaid qs → IsSaid (ps ++ qs)
  said_both ps qs one two r =
      along_two r ps qs
      ∙ ap (λ (ls : List Fault). ls ++ along (behind r ps) qs) (one r)
      ∙ ap (λ (ls : List Fault). flat_map said ps ++ ls) (two (behind r ps))
      ∙ sym (flat_map-append said ps qs)

  said_each : (f : Item → List Spot) (cs : List Item) → ((c : Item) → In c cs → IsSaid (f c)) → IsSaid (flat_map f cs)
  said_each f [] each r = refl
  said_each f (c ∷ cs) each r = said_both (f c) (flat_map f cs) (each c (inl refl)) (said_each f cs (λ d there. each d (inr there))) r

  module _ (below : Item → Placed → List Spot) (e : Item) (block : ℕ) (inodes : (e.owner == greatest_word) ≡ true) where
    quiet : leads_on (visit_of (e, block)) ≡ true
    quiet = so (not (e.level == 0)) (e.owner == greatest_word) inodes
      where
        so : (b c : Bool) → c ≡ true → (b || c) ≡ true
        so true c is = refl
        so false c is = is

    nothing_of : (o : Option ℕ) → (if leads_on (visit_of (e, block)) then [] else length_if block e.place o) ≡ []
    nothing_of o = ap (λ (b : Bool). if b then [] else length_if block e.place o) quiet

    said_one : AreKnown (plain_one g below e block)
        → ((x : Placed) → place_at g e ≡ Some x → AreKnown ((e, block) ∷ below e x) → (r : Option Records) → along (after r (e, block) (Some x)) (below e x) ≡ flat_map said (below e x))
        → IsSaid (plain_one g below e block)
    said_one known each r = so (e.pointer.stamp == 0) known
      where
        rest : (o : Option Placed) → place_at g e ≡ o → AreKnown ((e, block) ∷ option_map_or (below e) o [])
            → along (after r (e, block) o) (option_map_or (below e) o []) ≡ flat_map said (option_map_or (below e) o [])
        rest None found known = refl
        rest (Some x) found known = each x found known r

        so : (b : Bool) → AreKnown (if b then [] else (e, block) ∷ option_map_or (below e) (place_at g e) [])
            → along r (if b then [] else (e, block) ∷ option_map_or (below e) (place_at g e) []) ≡ flat_map said (if b then [] else (e, block) ∷ option_map_or (below e) (place_at g e) [])
        so true known = refl
        so false known =
            ap (λ (ls : List Fault). ls ++ along (after r (e, block) (place_at g e)) (option_map_or (below e) (place_at g e) [])) (nothing_of (length_in r e.owner))
            ∙ rest (place_at g e) refl known
            ∙ sym (ap (λ (ls : List Fault). ls ++ flat_map said (option_map_or (below e) (place_at g e) [])) (nothing_of (long e.owner)))

  -- at an inode block, with the trees of its files behind it
  module _ (e : Item) (block : ℕ) (inodes : (e.owner == greatest_word) ≡ true) (cell : (e.level == 0) ≡ true) where
    below_is : (x : Placed) → below_of e (Some x) ≡ inodes_in (inodes_at x.block)
    unfolding below_of spelled
    below_is x =
        ap (λ (b : Bool). if b then (if e.owner == greatest_word then inodes_in (inodes_at x.block) else Nothing) else node_in (node_at x.block)) cell
        ∙ ap (λ (b : Bool). if b then inodes_in (inodes_at x.block) else Nothing) inodes

    files_are : (x : Placed) → files_under e x ≡ files_of e.place (inodes_at x.block)
    unfolding files_under
    files_are x =
        ap (λ (b : Bool). if b && (e.owner == greatest_word) then files_of e.place (inodes_at x.block) else []) cell
        ∙ ap (λ (b : Bool). if true && b then files_of e.place (inodes_at x.block) else []) inodes

    under_are : (x : Placed) → pointers_under e x ≡ map (file_root e) (files_of e.place (inodes_at x.block))
    unfolding pointers_under
    under_are x = ap (λ (b : Bool). if b then map (file_root e) (files_under e x) else children_of e (node_at x.block)) cell ∙ ap (map (file_root e)) (files_are x)

    seen_are : (x : Placed) → place_at g e ≡ Some x → files_seen (sight_of g (e, block)) ≡ files_of e.place (inodes_at x.block)
    unfolding below_of
    seen_are x found = ap (λ (o : Option Placed). files_at e (below_of e o)) found ∙ spelled_files e x ∙ files_are x

    abbrev trees : Placed → List Item → List Spot
    trees x cs = flat_map (λ c. plain g no_more c.levels c x.pvbn) cs

    read : (r : Option Records) (x : Placed) (b : Result InodeBlock Shape) → inodes_at x.block ≡ b
        → ((f : File) → In f (files_of e.place b) → (f.0 ≢ greatest_word) × (long f.0 ≡ Some f.1.length))
        → along (records_after r (visit_of (e, block)) (inodes_in b)) (trees x (map (file_root e) (files_of e.place b))) ≡ flat_map said (trees x (map (file_root e) (files_of e.place b)))
    read r x (Err shape) reads known = refl
    read r x (Ok b) reads known =
        let held : Option Records = Some (record { place = e.place; block = b }) in
        let files : List File = used_from (records_each * e.place) b.files in
        (stays_each held (λ c. plain g no_more c.levels c x.pvbn) (map (file_root e) files) (λ c there.
        let at = from_map (file_root e) c files there in
        let is = known at.0 at.1 in
        let far = is.0 in
        let other : (at.0.0 == greatest_word) ≡ false = grind (arith, nat_tests, far) in
        subst (λ (c : Item). Stays held (plain g no_more c.levels c x.pvbn)) at.2
        (stays_tree held (file_root e at.0).levels (file_root e at.0) x.pvbn other (length_there e.place b (files_long x.block b reads) at.0 at.1 ∙ sym is.1)))).lines

    said_files : AreKnown (plain_one g (files_met g) e block) → IsSaid (plain_one g (files_met g) e block)
    said_files known = said_one (files_met g) e block inodes known (λ x found known r.
        let one = read r x (inodes_at x.block) refl (λ f there. known (e, block) (inl refl) f (subst (In f) (sym (seen_are x found)) there)) in
        subst (λ (cs : List Item). along (after r (e, block) (Some x)) (trees x cs) ≡ flat_map said (trees x cs)) (sym (under_are x))
        (ap (λ b. along (records_after r (visit_of (e, block)) b) (trees x (map (file_root e) (files_of e.place (inodes_at x.block))))) (below_is x) ∙ one))

  -- under a node of the inode file
  record IsUnder (e c : Item) (level : ℕ) : Type 0 where
    owner : c.owner ≡ e.owner
    low : c.level ≡ level

  nodes_under : (e : Item) (x : Placed) (level : ℕ) → e.level ≡ suc level → (c : Item) → In c (pointers_under e x) → IsUnder e c level
  unfolding pointers_under
  nodes_under e x level high c there = so (e.level == 0) (let test : (e.level == 0) ≡ false = grind (arith, nat_tests, high) in test) (node_at x.block) there
    where
      so : (b : Bool) → b ≡ false → (n : Result Node Shape) → In c (if b then map (file_root e) (files_under e x) else children_of e n) → IsUnder e c level
      so true is n there = absurd cc
      so false is (Err shape) there = absurd there
      so false is (Ok n) there =
          let at = from_map (child_of e) c (enumerate_from 0 n.children) there in
          let lower : e.level - 1 ≡ level = omega (arith, high) in
          record { owner = ap (λ (i : Item). i.owner) (sym at.2); low = ap (λ (i : Item). i.level) (sym at.2) ∙ lower }

  said_tree : (level : ℕ) (e : Item) (block : ℕ) → (e.owner == greatest_word) ≡ true → e.level ≡ level → AreKnown (plain g (files_met g) level e block) → IsSaid (plain g (files_met g) level e block)
  unfolding plain
  said_tree zero e block inodes low known = said_files e block inodes (let cell : (e.level == 0) ≡ true = grind (arith, nat_tests, low) in cell) known
  said_tree (suc level) e block inodes high known =
      said_one (λ e x. flat_map (λ c. plain g (files_met g) level c x.pvbn) (pointers_under e x)) e block inodes known (λ x found known r.
      said_each (λ c. plain g (files_met g) level c x.pvbn) (pointers_under e x) (λ c there.
      let is = nodes_under e x level high c there in
      said_tree level c x.pvbn (ap (λ (n : ℕ). n == greatest_word) is.owner ∙ inodes) is.low
      (λ p inside f seen. known p (inr (in_flat_map (λ c. plain g (files_met g) level c x.pvbn) c p (pointers_under e x) there inside)) f seen))
      (after r (e, block) (Some x)))

  -- So what is said of each cell along a root, by the records that were seen last, is said by the lengths of all files.
  pub said_along : (label : ℕ) (r : Rooted) → AreKnown (met g label r) → (q : Option Records) → lengths_along q (map (sight_of g) (met g label r)) ≡ flat_map said (met g label r)
  unfolding met
  said_along label r known q = said_tree r.levels (root_item r) label (let own : (greatest_word == greatest_word) ≡ true = grind (arith, nat_tests) in own) refl known q
