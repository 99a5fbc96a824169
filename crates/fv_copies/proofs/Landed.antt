-- A copy that is written to a free block and lands in a container, and all of them.
use Rattle.std.proofs.Common.{◌≡◌, ◌≢◌, ℕ, zero, suc, ◌/◌, ◌<◌, ◌≤◌, Bool, true, false, ◌||◌, ◌==◌, cond, List, [], ◌∷◌, ◌++◌, length, get_or, Option, Some, None, true≢false, refl, sym, ap, subst, ◌∙◌, inl, inr, ⊎_elim, arith}
use Rattle.std.specs.Prelude.{IsTrue, Result, Ok, replicate, slice_index_or, slice_set}
use Rattle.std.specs.FinMap as fin
use Rattle.std.specs.Ordering.{nat_cmp, eq_by_cmp}
use Rattle.std.specs.Cmp.{nat_cmp_total}
use Rattle.std.proofs.lemmas.Bool.{cases_eq, cases_lt}
use Rattle.std.proofs.lemmas.Bool.Decides.{nat_tests}
use Rattle.std.proofs.lemmas.List.{get_or-set_other, get_or-set_same, get_or_past, length-set}
use Rattle.std.proofs.lemmas.List.Elements.{All-push}
use Rattle.fv_bits.specs.Members.{is_member}
use Rattle.fv_bits.proofs.Laws.{is_member_past}
use Rattle.fv_disk.specs.declared.Failed.{Failed}
use Rattle.fv_disk.specs.declared.fault.BlockFault.{BlockFault}
use Rattle.fv_disk.specs.declared.fault.BlockFault.TheVariants.{DiskFault, Damaged, Memory}
use Rattle.fv_disk.specs.Shown.{Image, IsDisk, Shown as Disk}
use Rattle.fv_disk.specs.DiskCalls.{OnlyReads, Writes}
use Rattle.fv_disk.specs.Sparing.{LeftBefore}
use Rattle.fv_disk.proofs.Moments.{goes_on}
use Rattle.fv_aggmap.specs.Space.{Space, IsFree, free_blocks}
use Rattle.fv_aggmap.proofs.Room.{one_is_found}
use Rattle.fv_container.specs.declared.entry.Entry.{Entry}
use Rattle.fv_container.specs.Loading.{HasLoaded, HasPut}
use Rattle.fv_container.specs.Mapped.{Mapped, entry_under, node_count}
use Rattle.fv_container.specs.Paged.{Paged, empty_paged}
use Rattle.fv_container.specs.Reading.{IsBadNode}
use Rattle.fv_container.specs.Spelled.{names}
use Rattle.fv_container.proofs.Clean.{clean_none, clean_put, clean_still, none_at}
use Rattle.fv_container.proofs.Named.{at_none, named_at}
use Rattle.fv_pool.specs.declared.pool.Pool.{Pool}
use Rattle.fv_pool.specs.Keeping.{Blocks}
use Rattle.fv_copies.specs.Copying.{Content, Copy, IsTaken, IsUndamaged, LeavesTaken, content_of}
use Rattle.fv_copies.specs.Landings.{HasLanded, IsLanded, IsNoBlock, Lacks, Lands, TakesMarked, AreUnmarked, is_copied}
use Rattle.fv_copies.proofs.Leaving.{Left, as_before, at_once, begun}
use Rattle.fv_copies.proofs.Marking.{free_off, marked_more, set_here, set_more, set_other, taken_free}

-- what is forgotten under a place is kept under the others
kept_other : (kept : Blocks) (b c : ℕ) → c ≢ b → fin.get (fin.remove kept b) c ≡ fin.get kept c
kept_other kept b c other =
    let test : eq_by_cmp nat_cmp c b ≡ false = grind (arith, nat_tests, other) in
    fin.get-remove nat_cmp_total kept b c ∙ ap (λ (t : Bool). cond t None (fin.get kept c)) test

kept_here : (kept : Blocks) (b : ℕ) → fin.get (fin.remove kept b) b ≡ None
kept_here kept b =
    let test : eq_by_cmp nat_cmp b b ≡ true = grind (arith, nat_tests) in
    fin.get-remove nat_cmp_total kept b b ∙ ap (λ (t : Bool). cond t None (fin.get kept b)) test

-- a free block is written, and no other
pub leaves_written : (quiet : Type 0) (disk : Disk) (pool : Pool) (mid : Disk) (b : ℕ) (block : List ℕ) (after : Disk) (left : Pool) (r : Result Unit Failed)
    → IsDisk disk → OnlyReads disk mid → IsFree pool.map b → b < length pool.map.next → left.map ≡ record pool.map { next = slice_set pool.map.next b true }
    → left.kept ≡ fin.remove pool.kept b → left.containers ≡ pool.containers → left.found ≡ pool.found → left.version ≡ pool.version → Writes mid b block after r
    → LeavesTaken quiet disk pool after left
leaves_written quiet disk pool mid b block after left r laws reads free low map kept containers found version w =
    let apart : (c : ℕ) → IsTaken pool.map c → c ≢ b = λ c taken. λ same. taken (subst (IsFree pool.map) (sym same) free) in
    let images : (i : Image) → after.images i → LeftBefore (IsTaken pool.map) disk i = λ i now.
    let before = w.no_more i now in (before.0, reads.stays.no_more before.0 before.1, λ c taken. before.2 c (apart c taken)) in
    record {
      containers = containers;
      found = found;
      version = version;
      committed = ap (λ (s : Space). s.committed) map;
      free = λ c is. taken_free pool.map left.map b c low map is;
      held = λ c is. ap (λ (s : Space). is_member s.next c) map ∙ set_more pool.map.next b c low is;
      kept = λ c taken. ap (λ (k : Blocks). fin.get k c) kept ∙ kept_other pool.kept b c (apart c taken);
      fewer = λ c. ⊎_elim
          (λ (same : c ≡ b). inl (ap (λ (k : Blocks). fin.get k c) kept ∙ ap (fin.get (fin.remove pool.kept b)) same ∙ kept_here pool.kept b))
          (λ (other : c ≢ b). inr (ap (λ (k : Blocks). fin.get k c) kept ∙ kept_other pool.kept b c other))
          (cases_eq c b);
      tells = w.tells ∙ reads.stays.tells;
      given = λ is. w.given ∙ reads.given;
      ends = λ is. w.ends ∙ reads.ends;
      reads = λ tells c taken. w.others (subst IsTrue (sym reads.stays.tells) tells) c (apart c taken) ∙ at_once reads.stays.reads c;
      images = images;
      any_moment = goes_on disk mid after (Left quiet pool.map disk)
          (goes_on disk disk mid (Left quiet pool.map disk) (begun quiet pool.map disk laws) reads.time (λ i now. (as_before quiet pool.map disk i (reads.stays.no_more i now), λ is. reads.given)))
          w.time (λ i now. (images i now, λ is. w.given ∙ reads.given));
    }

-- what was taken is given back
pub leaves_back : (quiet : Type 0) (disk : Disk) (pool : Pool) (after : Disk) (mid left : Pool) → LeavesTaken quiet disk pool after mid → left ≡ record mid { map = pool.map } → LeavesTaken quiet disk pool after left
leaves_back quiet disk pool after mid left leaves is = subst (LeavesTaken quiet disk pool after) (sym is) (record {
  containers = leaves.containers;
  found = leaves.found;
  version = leaves.version;
  committed = refl;
  free = λ b free. free;
  held = λ b is. is;
  kept = leaves.kept;
  fewer = leaves.fewer;
  tells = leaves.tells;
  given = leaves.given;
  ends = leaves.ends;
  reads = leaves.reads;
  images = leaves.images;
  any_moment = leaves.any_moment;
})

-- ---- one copy more

not_any : (copies : List Copy) (c : Copy) (v : ℕ) → is_copied (copies ++ (c ∷ [])) v ≡ false → (is_copied copies v ≡ false) × ((v == c.vvbn) ≡ false)
not_any [] c v is = (refl, first (v == c.vvbn) is)
  where
    first : (t : Bool) → (t || false) ≡ false → t ≡ false
    first true off = absurd (true≢false off)
    first false off = refl
not_any (x ∷ copies) c v is =
    let both = split (v == x.vvbn) (is_copied (copies ++ (c ∷ [])) v) is in
    let rest = not_any copies c v both.1 in
    (join (v == x.vvbn) (is_copied copies v) both.0 rest.0, rest.1)
  where
    split : (a b : Bool) → (a || b) ≡ false → (a ≡ false) × (b ≡ false)
    split true b off = absurd (true≢false off)
    split false b off = (refl, off)

    join : (a b : Bool) → a ≡ false → b ≡ false → (a || b) ≡ false
    join a b one two = ap (λ (t : Bool). t || b) one ∙ two

differ : (v w : ℕ) → (v == w) ≡ false → v ≢ w
differ v w test same = let other : (v == w) ≡ true = grind (arith, nat_tests, same) in true≢false (sym other ∙ test)

none_some : {X : Type 0} (x : X) → None ≢ Some x
none_some x e = cc

some_same : (e f : Entry) → Some e ≡ Some f → f ≡ e
some_same e f is = sym (ap (λ (o : Option Entry). or_this o) is)
  where
    or_this : Option Entry → Entry
    or_this None = e
    or_this (Some x) = x

-- a leaf that came into memory changes nothing of that
pub lacks_laid : (disk : Disk) (region : ℕ) (container laid : Paged) → HasLoaded disk region container laid → (v : ℕ) → Lacks container v → Lacks laid v
lacks_laid disk region container laid loads v was = record {
  within = subst (λ (m : Mapped). v < length m.entries) (sym loads.map) was.within;
  hole = ap (λ (m : Mapped). entry_under m v) loads.map ∙ was.hole;
}

pub lands_laid : (disk : Disk) (region : ℕ) (container laid : Paged) (marks : List Bool) (map : Space) → HasLoaded disk region container laid → Lands container marks map laid marks map
lands_laid disk region container laid marks map loads = record { long = ap (λ (m : Mapped). length m.entries) loads.map; tree = ap (λ (m : Mapped). m.tree) loads.map; marked = λ start was. was }

-- a block that was taken is marked, also where it wasn't written
pub lands_taken : (disk : Disk) (region b : ℕ) (container laid : Paged) (marks marks_after : List Bool) (map map_after : Space) → HasLoaded disk region container laid → TakesMarked map marks b map_after marks_after
    → Lands container marks map laid marks_after map_after
lands_taken disk region b container laid marks marks_after map map_after loads takes = record {
  long = ap (λ (m : Mapped). length m.entries) loads.map;
  tree = ap (λ (m : Mapped). m.tree) loads.map;
  marked = λ start was. marked_more start map marks b map_after marks_after takes was;
}

module _ (container : Paged) (marks : List Bool) (pool : Pool) (disk mid : Disk) (v b kind : ℕ) (block : List ℕ) (reads : OnlyReads disk mid) (laid : Paged) (loads : HasLoaded disk (v / 256) container laid)
    (lacks : Lacks container v) (marks_after : List Bool) (left : Pool) (takes : TakesMarked pool.map marks b left.map marks_after) (kept : left.kept ≡ fin.remove pool.kept b) where
  abbrev placed : Entry
  placed = record { pvbn = b; kind = kind }

  module _ (now : Paged) (puts : HasPut v (Some placed) laid now) where
    entry_here : entry_under now.map v ≡ Some placed
    entry_here =
        let inside : v < length laid.map.entries = subst (λ (m : Mapped). v < length m.entries) (sym loads.map) lacks.within in
        ap (λ (es : List (Option Entry)). slice_index_or es v None) puts.entries ∙ get_or-set_same laid.map.entries v (Some placed) None inside

    entry_other : (w : ℕ) → w ≢ v → entry_under now.map w ≡ entry_under container.map w
    entry_other w other =
        ap (λ (es : List (Option Entry)). slice_index_or es w None) puts.entries ∙ get_or-set_other laid.map.entries v w (Some placed) None other ∙ ap (λ (m : Mapped). entry_under m w) loads.map

    -- it lacks the other numbers that it lacked
    pub lacks_other : (w : ℕ) → w ≢ v → Lacks container w → Lacks now w
    lacks_other w other was = record {
      within = let long : length now.map.entries ≡ length container.map.entries = ap (λ (es : List (Option Entry)). length es) puts.entries ∙ length-set laid.map.entries v (Some placed) ∙ ap (λ (m : Mapped). length m.entries) loads.map in
          omega (arith, long, was.within);
      hole = entry_other w other ∙ was.hole;
    }

    pub lands_more : Lands container marks pool.map now marks_after left.map
    lands_more = record {
      long = ap (λ (es : List (Option Entry)). length es) puts.entries ∙ length-set laid.map.entries v (Some placed) ∙ ap (λ (m : Mapped). length m.entries) loads.map;
      tree = puts.tree ∙ ap (λ (m : Mapped). m.tree) loads.map;
      marked = λ start was. marked_more start pool.map marks b left.map marks_after takes was;
    }

    module _ (after : Disk) (w : Writes mid b block after (Ok tt)) (copies : List Copy) (landed : HasLanded container marks pool (content_of disk) copies) where
      abbrev copy : Copy
      copy = record { vvbn = v; kind = kind; block = block }

      tells_mid : IsTrue mid.tells
      tells_mid = subst IsTrue (sym reads.stays.tells) landed.tells

      marked_after : (c : ℕ) → is_member marks c ≡ true → is_member marks_after c ≡ true
      marked_after c is = ap (λ (m : List Bool). is_member m c) takes.noted ∙ set_more marks b c takes.marked is

      -- a marked block isn't the one that was free
      apart_of : (c : ℕ) → is_member marks c ≡ true → c ≢ b
      apart_of c is same = true≢false (sym (landed.held c is) ∙ ap (is_member pool.map.next) same ∙ free_off pool.map b takes.free)

      marked_here : is_member marks_after b ≡ true
      marked_here = ap (λ (m : List Bool). is_member m b) takes.noted ∙ set_here marks b takes.marked

      new_landed : IsLanded now marks_after left (content_of after) copy
      new_landed = record {
        entry = placed;
        there = entry_here;
        kind = refl;
        marked = marked_here;
        unkept = ap (λ (k : Blocks). fin.get k b) kept ∙ kept_here pool.kept b;
        block = w.written tells_mid;
      }

      still_landed : (c : Copy) → IsLanded container marks pool (content_of disk) c → IsLanded now marks_after left (content_of after) c
      still_landed c is =
          let other : c.vvbn ≢ v = λ same. none_some is.entry (sym lacks.hole ∙ ap (entry_under container.map) (sym same) ∙ is.there) in
          let apart = apart_of is.entry.pvbn is.marked in
          record {
            entry = is.entry;
            there = entry_other c.vvbn other ∙ is.there;
            kind = is.kind;
            marked = marked_after is.entry.pvbn is.marked;
            unkept = ap (λ (k : Blocks). fin.get k is.entry.pvbn) kept ∙ kept_other pool.kept b is.entry.pvbn apart ∙ is.unkept;
            block = w.others tells_mid is.entry.pvbn apart ∙ at_once reads.stays.reads is.entry.pvbn ∙ is.block;
          }

      names_none : (c : ℕ) → names laid.map.tree c ≡ false
      names_none c = ap (λ (m : Mapped). names m.tree c) loads.map ∙ landed.nowhere c

      led_now : (u : ℕ) (e : Entry) → entry_under now.map u ≡ Some e → is_member marks_after e.pvbn ≡ true
      led_now u e is = ⊎_elim
          (λ (same : u ≡ v).
          let entry : e ≡ placed = some_same placed e (sym entry_here ∙ ap (entry_under now.map) (sym same) ∙ is) in
          ap (λ (f : Entry). is_member marks_after f.pvbn) entry ∙ marked_here)
          (λ (other : u ≢ v). marked_after e.pvbn (landed.led u e (sym (entry_other u other) ∙ is)))
          (cases_eq u v)

      -- the entry under another number isn't that of the copy
      off_new : (u : ℕ) (e : Entry) → u ≢ v → entry_under now.map u ≡ Some e → e.pvbn ≢ b
      off_new u e other is = apart_of e.pvbn (landed.led u e (sym (entry_other u other) ∙ is))

      is_new : (u : ℕ) (e : Entry) → u ≡ v → entry_under now.map u ≡ Some e → e.pvbn ≡ b
      is_new u e same is = ap (λ (f : Entry). f.pvbn) (some_same placed e (sym entry_here ∙ ap (entry_under now.map) (sym same) ∙ is))

      apart_now : (u x : ℕ) → x ≢ u → (e f : Entry) → entry_under now.map u ≡ Some e → entry_under now.map x ≡ Some f → f.pvbn ≢ e.pvbn
      apart_now u x differs e f one two = ⊎_elim
          (λ (same : u ≡ v). λ (equal : f.pvbn ≡ e.pvbn). off_new x f (λ here. differs (here ∙ sym same)) two (equal ∙ is_new u e same one))
          (λ (other : u ≢ v). ⊎_elim
          (λ (here : x ≡ v). λ (equal : f.pvbn ≡ e.pvbn). off_new u e other one (sym equal ∙ is_new x f here two))
          (λ (away : x ≢ v). landed.apart u x differs e f (sym (entry_other u other) ∙ one) (sym (entry_other x away) ∙ two))
          (cases_eq x v))
          (cases_eq u v)

      pub landed_more : HasLanded now marks_after left (content_of after) (copies ++ (copy ∷ []))
      landed_more = record {
        tells = subst IsTrue (sym w.tells) tells_mid;
        clean = clean_put laid now v (Some placed) loads.here puts after.reads
            (clean_still disk.reads after.reads laid (λ c named. absurd (true≢false (sym named ∙ names_none c))) (loads.clean landed.tells landed.clean));
        nowhere = λ c. ap (λ (t : List ℕ). names t c) puts.tree ∙ names_none c;
        held = λ c is. ⊎_elim
            (λ (same : c ≡ b). ap (is_member left.map.next) same ∙ ap (λ (s : Space). is_member s.next b) takes.taken ∙ set_here pool.map.next b takes.within)
            (λ (other : c ≢ b). ap (λ (s : Space). is_member s.next c) takes.taken
            ∙ set_more pool.map.next b c takes.within (landed.held c (sym (set_other marks b c takes.marked other) ∙ ap (λ (m : List Bool). is_member m c) (sym takes.noted) ∙ is)))
            (cases_eq c b);
        each = All-push (IsLanded now marks_after left (content_of after)) copies copy (λ i d low. still_landed (get_or copies i d) (landed.each i d low)) new_landed;
        holes = λ u is. let both = not_any copies copy u is in entry_other u (differ u v both.1) ∙ landed.holes u both.0;
        led = led_now;
        back = λ c is. ⊎_elim
            (λ (same : c ≡ b). record { number = v; entry = placed; there = entry_here; place = sym same })
            (λ (other : c ≢ b).
            let was = landed.back c (sym (set_other marks b c takes.marked other) ∙ ap (λ (m : List Bool). is_member m c) (sym takes.noted) ∙ is) in
            record {
              number = was.number;
              entry = was.entry;
              there = entry_other was.number (λ (same : was.number ≡ v). none_some was.entry (sym lacks.hole ∙ ap (entry_under container.map) (sym same) ∙ was.there)) ∙ was.there;
              place = was.place;
            })
            (cases_eq c b);
        apart = apart_now;
      }

-- ---- no damage

-- a container without nodes on the disk has no bad one
pub bad_nowhere : (i : Image) (places : List ℕ) (k : ℕ) (e : BlockFault) → ((b : ℕ) → names places b ≡ false) → IsBadNode i (get_or places k 0) 0 e → IsUndamaged e
bad_nowhere i places k DiskFault none bad = tt
bad_nowhere i places k Memory none bad = tt
bad_nowhere i places k (Damaged at want found) none bad =
    let some : get_or places k 0 ≢ 0 = bad.1 in
    let low : k < length places = ⊎_elim (λ (lt : k < length places). lt) (λ (past : length places ≤ k). absurd (some (get_or_past places k 0 past))) (cases_lt k (length places)) in
    absurd (true≢false (sym (named_at places k (get_or places k 0) low refl some) ∙ none (get_or places k 0)))

-- where some block is free, one is taken
pub block_found : (map : Space) (root : ℕ) (e : BlockFault) → free_blocks map ≢ 0 → IsNoBlock map root e → IsUndamaged e
block_found map root DiskFault some none = absurd none
block_found map root Memory some none = tt
block_found map root (Damaged at want found) some none = absurd (one_is_found map (omega (arith, some)) none.1.1.1)

-- a container of holes without a copy
pub none_named : (n b : ℕ) → names (replicate n 0) b ≡ false
none_named zero b = refl
none_named (suc n) b = (λ i. at_none b i || none_named n b i)

pub landed_none : (n : ℕ) (container : Paged) (marks : List Bool) (pool : Pool) (content : Content) → container ≡ empty_paged n → AreUnmarked marks → IsTrue content.tells → HasLanded container marks pool content []
landed_none n container marks pool content empty none tells = subst (λ (p : Paged). HasLanded p marks pool content []) (sym empty) (record {
  tells = tells;
  clean = clean_none content.reads n;
  nowhere = λ b. none_named (node_count n) b;
  held = λ b is. absurd (true≢false (sym is ∙ none b));
  each = λ i d low. absurd (omega (arith, low));
  holes = λ v is. none_at n v;
  back = λ b is. absurd (true≢false (sym is ∙ none b));
  led = λ v e is. absurd (none_some e (sym (none_at n v) ∙ is));
  apart = λ v w other e f one two. absurd (none_some e (sym (none_at n v) ∙ one));
})

-- it lacks each number of a map that isn't longer
pub lacks_empty : (bits : List Bool) (container : Paged) → container ≡ empty_paged (length container.map.entries) → length bits ≤ length container.map.entries → (v : ℕ) → is_member bits v ≡ true → Lacks container v
lacks_empty bits container empty few v is = record {
  within = ⊎_elim
      (λ (low : v < length bits). omega (arith, low, few))
      (λ (past : length bits ≤ v). absurd (true≢false (sym is ∙ is_member_past bits v past)))
      (cases_lt v (length bits));
  hole = ap (λ (p : Paged). entry_under p.map v) empty ∙ none_at (length container.map.entries) v;
}
