-- What a sink leaves of pool and disk, over reads and over several calls; what is copied lies still meanwhile.
use Rattle.std.proofs.Common.{◌≡◌, ◌≢◌, ◌<◌, ◌≤◌, ℕ, Bool, true, List, length, get_or, Option, Some, None, refl, sym, ap, subst, ◌∙◌, inl, inr, ⊎_elim}
use Rattle.std.proofs.lemmas.Bool.{cases_lt}
use Rattle.std.proofs.lemmas.List.{get_or_past}
use Rattle.std.specs.Prelude.{IfSome, IsTrue}
use Rattle.std.specs.FinMap as fin
use Rattle.fv_bits.specs.Members.{is_member}
use Rattle.fv_disk.specs.Shown.{Image, IsDisk, Shown as Disk}
use Rattle.fv_disk.specs.Crash.{Leaves}
use Rattle.fv_disk.specs.Sparing.{LeftBefore}
use Rattle.fv_disk.proofs.Moments.{started, goes_on, then, weaken}
use Rattle.fv_disk.specs.DiskCalls.{OnlyReads}
use Rattle.fv_aggmap.specs.Space.{Space, IsFree}
use Rattle.fv_container.specs.declared.entry.Entry.{Entry}
use Rattle.fv_container.specs.Chains.{AreCleanOn, IsLeafDamage, Slots, chain_entry, container_at, map_in, paged_at}
use Rattle.fv_container.specs.Clean.{IsCleanOn}
use Rattle.fv_container.specs.Mapped.{Mapped}
use Rattle.fv_container.specs.Paged.{Paged}
use Rattle.fv_container.specs.Spelled.{names}
use Rattle.fv_container.proofs.Clean.{clean_still}
use Rattle.fv_container.proofs.Named.{named_at}
use Rattle.fv_image.specs.Containers.{node_shape}
use Rattle.fv_places.specs.ByKind.{form_of, shape_in}
use Rattle.fv_places.specs.Changed.{Blanks}
use Rattle.fv_pool.specs.declared.pool.Pool.{Pool}
use Rattle.fv_pool.specs.BlocksOver.{LeavesPool, TellsEntries, tree_in}
use Rattle.fv_pool.specs.Keeping.{Blocks, kept_or, seen}
use Rattle.fv_copies.specs.Copying.{Copy, IsCopy, IsSource, IsTaken, IsWhole, LeavesTaken, content_of}

pub at_once : {A : Type 0} {f g : ℕ → A} → f ≡ g → (b : ℕ) → f b ≡ g b
at_once {A} {f} {g} e b = rw e refl

module _ (quiet : Type 0) where
  abbrev pub Left : Space → Disk → Image → List ℕ → Type 0
  Left space old c g = LeftBefore (IsTaken space) old c × (quiet → g ≡ old.given)

  pub as_before : (space : Space) (disk : Disk) (c : Image) → disk.images c → LeftBefore (IsTaken space) disk c
  as_before space disk c now = (c, now, λ b is. refl)

  pub begun : (space : Space) (disk : Disk) → IsDisk disk → Leaves disk disk (Left space disk)
  begun space disk laws = started disk (Left space disk) laws (λ c now. (as_before space disk c now, λ is. refl))

  -- reads alone leave everything
  pub leaves_reads : (disk : Disk) (pool : Pool) (after : Disk) (left : Pool) → IsDisk disk → LeavesPool pool left → OnlyReads disk after → LeavesTaken quiet disk pool after left
  leaves_reads disk pool after left laws same reads = record {
    containers = same.containers;
    found = same.found;
    version = same.version;
    committed = ap (λ (s : Space). s.committed) same.map;
    free = λ b free. subst (λ (s : Space). IsFree s b) same.map free;
    held = λ b is. ap (λ (s : Space). is_member s.next b) same.map ∙ is;
    kept = λ b taken. ap (λ (k : Blocks). fin.get k b) same.kept;
    fewer = λ b. inr (ap (λ (k : Blocks). fin.get k b) same.kept);
    tells = reads.stays.tells;
    given = λ is. reads.given;
    ends = λ is. reads.ends;
    reads = λ tells b taken. at_once reads.stays.reads b;
    images = λ c now. as_before pool.map disk c (reads.stays.no_more c now);
    any_moment = goes_on disk disk after (Left pool.map disk) (begun pool.map disk laws) reads.time (λ c now. (as_before pool.map disk c (reads.stays.no_more c now), λ is. reads.given));
  }

  pub leaves_none : (disk : Disk) (pool : Pool) → IsDisk disk → LeavesTaken quiet disk pool disk pool
  leaves_none disk pool laws = record {
    containers = refl;
    found = refl;
    version = refl;
    committed = refl;
    free = λ b free. free;
    held = λ b is. is;
    kept = λ b taken. refl;
    fewer = λ b. inr refl;
    tells = refl;
    given = λ is. refl;
    ends = λ is. refl;
    reads = λ tells b taken. refl;
    images = as_before pool.map disk;
    any_moment = begun pool.map disk laws;
  }

  pub leaves_then : (disk : Disk) (pool : Pool) (mid : Disk) (half : Pool) (after : Disk) (left : Pool) → LeavesTaken quiet disk pool mid half → LeavesTaken quiet mid half after left → LeavesTaken quiet disk pool after left
  leaves_then disk pool mid half after left first second =
      let still : (b : ℕ) → IsTaken pool.map b → IsTaken half.map b = λ b taken. λ free. taken (first.free b free) in
      let images : (c : Image) → LeftBefore (IsTaken half.map) mid c → LeftBefore (IsTaken pool.map) disk c = λ c kept.
      let before = first.images kept.0 kept.1 in (before.0, before.1, λ b is. kept.2 b (still b is) ∙ before.2 b is) in
      record {
        containers = second.containers ∙ first.containers;
        found = second.found ∙ first.found;
        version = second.version ∙ first.version;
        committed = second.committed ∙ first.committed;
        free = λ b free. first.free b (second.free b free);
        held = λ b is. second.held b (first.held b is);
        kept = λ b taken. second.kept b (still b taken) ∙ first.kept b taken;
        fewer = λ b. ⊎_elim
            (λ (none : fin.get left.kept b ≡ None). inl none)
            (λ (same : fin.get left.kept b ≡ fin.get half.kept b). ⊎_elim
            (λ (none : fin.get half.kept b ≡ None). inl (same ∙ none))
            (λ (before : fin.get half.kept b ≡ fin.get pool.kept b). inr (same ∙ before))
            (first.fewer b))
            (second.fewer b);
        tells = second.tells ∙ first.tells;
        given = λ is. second.given is ∙ first.given is;
        ends = λ is. second.ends is ∙ first.ends is;
        reads = λ tells b taken. second.reads (subst IsTrue (sym first.tells) tells) b (still b taken) ∙ first.reads tells b taken;
        images = λ c now. images c (second.images c now);
        any_moment = then disk mid after (Left pool.map disk) first.any_moment
            (weaken mid after (Left half.map mid) (Left pool.map disk) (λ c g kept. (images c kept.0, λ is. kept.1 is ∙ first.given is)) second.any_moment);
      }

-- ---- what is copied

-- a clean container stays clean where its nodes are read as before
clean_there : (i j : Image) (held : Option Paged) → ((b : ℕ) → names (tree_in (map_in held)) b ≡ true → j b ≡ i b) → IfSome held (IsCleanOn i) → IfSome held (IsCleanOn j)
clean_there i j None same clean = tt
clean_there i j (Some paged) same clean = clean_still i j paged same clean

if_some_still : {A : Type 0} (P Q : A → Type 0) → ((x : A) → P x → Q x) → (o : Option A) → IfSome o P → IfSome o Q
if_some_still P Q goes None is = tt
if_some_still P Q goes (Some x) is = goes x is

inside : (map : Mapped) (k at : ℕ) → at ≡ get_or map.tree k 0 → at ≢ 0 → k < length map.tree
inside map k at is some = ⊎_elim (λ (lt : k < length map.tree). lt) (λ (past : length map.tree ≤ k). absurd (some (is ∙ get_or_past map.tree k 0 past))) (cases_lt k (length map.tree))

module _ (quiet : Type 0) (disk : Disk) (pool : Pool) (slot : ℕ) (bits : List Bool) (source : IsSource disk pool slot bits) (after : Disk) (left : Pool) (leaves : LeavesTaken quiet disk pool after left) where
  still_taken : (b : ℕ) → IsTaken pool.map b → IsTaken left.map b
  still_taken b taken free = taken (leaves.free b free)

  pub still_tells : TellsEntries after left.containers
  still_tells = (
    subst IsTrue (sym leaves.tells) source.tells.0,
    subst (λ (c : Slots). AreCleanOn after.reads c) (sym leaves.containers)
        (λ s. clean_there disk.reads after.reads (paged_at pool.containers s) (λ b named. leaves.reads source.tells.0 b (source.nodes s b named)) (source.tells.1 s)),
  )

  pub source_still : IsSource after left slot bits
  source_still = record {
    tells = still_tells;
    nodes = λ s b named. still_taken b (source.nodes s b (ap (λ (c : Slots). names (tree_in (container_at c s)) b) (sym leaves.containers) ∙ named));
    blocks = λ v is. subst (λ (c : Slots). IfSome (chain_entry c slot v) (λ e. IsTaken left.map e.pvbn)) (sym leaves.containers)
        (if_some_still (λ e. IsTaken pool.map e.pvbn) (λ e. IsTaken left.map e.pvbn) (λ e taken. still_taken e.pvbn taken) (chain_entry pool.containers slot v) (source.blocks v is));
  }

  -- the block under a number of the map is seen as before
  pub seen_still : (v : ℕ) → is_member bits v ≡ true → (e : Entry) → chain_entry pool.containers slot v ≡ Some e → seen left.kept after.reads e.pvbn ≡ seen pool.kept disk.reads e.pvbn
  seen_still v is e there =
      let taken : IsTaken pool.map e.pvbn = subst (λ (o : Option Entry). IfSome o (λ e. IsTaken pool.map e.pvbn)) there (source.blocks v is) in
      ap (λ (o : Option (List ℕ)). kept_or o (after.reads e.pvbn)) (leaves.kept e.pvbn taken)
      ∙ ap (λ (b : List ℕ). kept_or (fin.get pool.kept e.pvbn) b) (leaves.reads source.tells.0 e.pvbn taken)

  -- so a copy of what it is now is a copy of what it was, and it has the shape that it had
  pub copy_was : (c : Copy) → is_member bits c.vvbn ≡ true → IsCopy after left slot c → IsCopy disk pool slot c
  copy_was c is copy =
      let there : chain_entry pool.containers slot c.vvbn ≡ Some copy.entry = ap (λ (s : Slots). chain_entry s slot c.vvbn) (sym leaves.containers) ∙ copy.there in
      record {
        entry = copy.entry;
        there = there;
        kind = copy.kind;
        shaped = ap (λ (b : List ℕ). shape_in (form_of copy.entry.kind) b) (sym (seen_still c.vvbn is copy.entry there)) ∙ copy.shaped;
        blank = subst (λ (b : List ℕ). Blanks (form_of copy.entry.kind) b c.block) (seen_still c.vvbn is copy.entry there) copy.blank;
      }

  pub whole_still : IsWhole disk pool slot bits → IsWhole after left slot bits
  whole_still whole = record {
    leaves = λ at want found bad. whole.leaves at want found (damage_was bad);
    each = λ v is.
        let has = whole.each v is in
        record {
          entry = has.entry;
          there = ap (λ (s : Slots). chain_entry s slot v) leaves.containers ∙ has.there;
          shape = ap (λ (b : List ℕ). shape_in (form_of has.entry.kind) b) (seen_still v is has.entry has.there) ∙ has.shape;
        };
  }
    where
      damage_was : {at want found : ℕ} → IsLeafDamage after.reads left.containers at want found → IsLeafDamage disk.reads pool.containers at want found
      damage_was {at} {want} {found} bad =
          let there : container_at pool.containers bad.slot ≡ Some bad.map = ap (λ (s : Slots). container_at s bad.slot) (sym leaves.containers) ∙ bad.there in
          record {
            slot = bad.slot;
            map = bad.map;
            there = there;
            leaf = record {
              region = bad.leaf.region;
              within = bad.leaf.within;
              place = bad.leaf.place;
              some = bad.leaf.some;
              fault = ap (λ (b : List ℕ). node_shape 0 b) (sym (leaves.reads source.tells.0 at (source.nodes bad.slot at
                  (ap (λ (o : Option Mapped). names (tree_in o) at) there ∙ named_at bad.map.tree bad.leaf.region at (inside bad.map bad.leaf.region at bad.leaf.place bad.leaf.some) (sym bad.leaf.place) bad.leaf.some)))) ∙ bad.leaf.fault;
            };
          }

-- reads leave the content
pub content_same : (disk after : Disk) → OnlyReads disk after → content_of after ≡ content_of disk
content_same disk after reads = λ i. record { tells = reads.stays.tells i; reads = reads.stays.reads i; given = reads.given i }
