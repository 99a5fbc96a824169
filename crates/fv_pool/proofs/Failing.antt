-- Why calls on a tree fail over what a session lends.
use Rattle.std.proofs.Common.{◌≡◌, ◌⊎◌, ℕ, List, Some, refl, sym, ap, subst, ◌∙◌, inl, inr, ⊎_elim, arith}
use Rattle.std.specs.FinMap as fin
use Rattle.fv_disk.specs.Shown.{Image, Rose, Shown as Disk}
use Rattle.fv_disk.specs.DiskCalls.{OnlyReads}
use Rattle.fv_disk.specs.declared.fault.BlockFault.{BlockFault}
use Rattle.fv_disk.specs.declared.fault.BlockFault.TheVariants.{DiskFault, Damaged, Memory}
use Rattle.fv_codec.specs.declared.pointer.Pointer.{Pointer}
use Rattle.fv_tables.specs.Spelled.{block_at}
use Rattle.fv_tree.specs.Reading.{cell_read_at}
use Rattle.fv_tree.specs.Sources.{Damage, IsUntouched, Shown, WasDamaged}
use Rattle.fv_tree.specs.Spelled.{Rooted, Under, pointer_at}
use Rattle.fv_tree.specs.Standing.{under, Fails, IsBlockDamage, IsNodeDamage, LacksBlock}
use Rattle.fv_inode.specs.Failing.{IsInodeDamage}
use Rattle.fv_pool.specs.declared.blocks.Home.{Home}
use Rattle.fv_pool.specs.declared.noted.Noted.{Noted}
use Rattle.fv_pool.specs.declared.pool.Pool.{Pool}
use Rattle.fv_container.specs.Chains.{Slots}
use Rattle.fv_volmap.specs.Slots.{Volume}
use Rattle.fv_pool.specs.Keeping.{Blocks}
use Rattle.fv_pool.specs.BlocksOver.{LacksLeaf, LeavesPool, block_of, held_entry, place_read, IsRightPlace}
use Rattle.fv_pool.specs.Lending.{IsHole, LacksOne, Lent, ReadFails, ReadsOver, WasHole, WasLack, WasLeaf, below, lent_by, place_or_none, shown_over, use_under}

-- a count that stays at 0 hasn't risen
pub still_none : (before now : ℕ) → before ≡ 0 → now ≡ before → Rose before now → ⊥
still_none before now none same (inl more) = absurd (omega (arith, none, same, more))
still_none before now none same (inr top) = absurd (omega (arith, none, same, top))

pub hole_is : (label : ℕ) (noted : Noted) (at want found : ℕ) → ◌≡◌ {A = Damage} (record { at = noted.at; want = noted.want; found = noted.found }) (record { at = at; want = want; found = found }) → WasHole label noted → IsHole label at want found
hole_is label noted at want found is hole = subst (λ (d : Damage). IsHole label d.at d.want d.found) is hole

pub lacks_is : (label root : ℕ) (noted : Noted) (at want found : ℕ) → ◌≡◌ {A = Damage} (record { at = noted.at; want = noted.want; found = noted.found }) (record { at = at; want = want; found = found }) → WasLack label root noted → LacksOne label root at want found
lacks_is label root noted at want found is lacks = subst (λ (d : Damage). LacksOne label root d.at d.want d.found) is lacks

pub leaf_is : (disk : Disk) (slots : Slots) (noted : Noted) (at want found : ℕ) → ◌≡◌ {A = Damage} (record { at = noted.at; want = noted.want; found = noted.found }) (record { at = at; want = want; found = found }) → WasLeaf disk slots noted → LacksLeaf disk slots at want found
leaf_is disk slots noted at want found is leaf = subst (λ (d : Damage). LacksLeaf disk slots d.at d.want d.found) is leaf

-- a damage that was counted since is that of a VVBN that isn't held, or of a leaf of a container
pub noted_hole : (old new : Lent) → old.noted.count ≡ 0 → (new.noted ≡ old.noted) ⊎ (WasHole old.home.label new.noted ⊎ WasLeaf old.disk old.pool.containers new.noted) → (at want found : ℕ) → WasDamaged (shown_over old) (shown_over new) at want found
    → IsHole old.home.label at want found ⊎ LacksLeaf old.disk old.pool.containers at want found
noted_hole old new none noted at want found was = ⊎_elim
    (λ same. absurd (still_none old.noted.count new.noted.count none (ap (λ (n : Noted). n.count) same) was.0))
    (λ cause. ⊎_elim (λ hole. inl (hole_is old.home.label new.noted at want found was.1 hole)) (λ leaf. inr (leaf_is old.disk old.pool.containers new.noted at want found was.1 leaf)) cause)
    noted

-- as a cause of a call that only loads
pub hole_fails : (told : Type 0) (t : Rooted) (old : Lent) (faults at want found : ℕ) → faults ≡ old.disk.faults → (told → LacksBlock t) → IsHole old.home.label at want found ⊎ LacksLeaf old.disk old.pool.containers at want found
    → ReadFails told t old faults (Damaged at want found)
hole_fails told t old faults at want found calm lacks (inl hole) = (calm, inl (hole, lacks))
hole_fails told t old faults at want found calm lacks (inr leaf) = (calm, inr (inr leaf))

-- So is the damage of a node, where its block lies as before and is read where it was,
block_damage : (a b c d : Shown) (p : Pointer) (at want found : ℕ) → ((content : List ℕ) → under a p.vvbn ≡ Some content → (under c p.vvbn ≡ Some content) × (b.read_at p ≡ d.read_at p))
    → IsBlockDamage a b p at want found → IsBlockDamage c d p at want found
block_damage a b c d p at want found there h = let now = there h.block h.lies in record { some = h.some; block = h.block; lies = now.0; fault = h.fault; read = h.read ∙ now.1 }

pub node_damage : (t : Rooted) (a b c d : Shown) (at want found : ℕ) → ((p : Pointer) (content : List ℕ) → under a p.vvbn ≡ Some content → (under c p.vvbn ≡ Some content) × (b.read_at p ≡ d.read_at p))
    → IsNodeDamage t a b at want found → IsNodeDamage t c d at want found
node_damage t a b c d at want found there n =
    let p = pointer_at t n.level n.place in
    let moved = block_damage a b c d p at want found (there p) n.damage in
    record { level = n.level; place = n.place; low = n.low; high = n.high; unread = n.unread; damage = moved }

-- and that of an inode block.
pub inode_damage : (wide narrow : Type 0) → (narrow → wide) → (t : Rooted) (new old : Shown) → ((cell : ℕ) (content : List ℕ) → block_at t cell ≡ Some content → cell_read_at t new cell ≡ cell_read_at t old cell)
    → (e : BlockFault) → IsInodeDamage wide t new e → IsInodeDamage narrow t old e
inode_damage wide narrow widens t new old there e h = record {
  at = h.at;
  block = h.block;
  shape = h.shape;
  fault = h.fault;
  is = h.is;
  cell = h.cell;
  lies = λ told. h.lies (widens told);
  place = λ told. h.place (widens told) ∙ there h.cell h.block (h.lies (widens told));
}

-- after reads a pointer is read where it was before
same_place : (old new : Lent) → ReadsOver old new → (p : Pointer) → (shown_over new).read_at p ≡ (shown_over old).read_at p
same_place old new reads p = (λ j. place_or_none (place_read (held_entry (reads.map j) (reads.containers j) (reads.home j).slot p.vvbn) p.pvbn))

pub read_fails : (told : Type 0) (t : Rooted) (old new : Lent) (e : BlockFault) → ReadsOver old new → old.noted.count ≡ 0 → Fails told t (shown_over old) (shown_over new) e → ReadFails told t old new.disk.faults e
read_fails told t old new DiskFault reads none cause = cause.0
read_fails told t old new (Damaged at want found) reads none (faults, inl (was, lacks)) = hole_fails told t old new.disk.faults at want found faults lacks (noted_hole old new none reads.noted at want found was)
read_fails told t old new (Damaged at want found) reads none (faults, inr (same, node)) =
    (faults, inr (inl (λ is. node_damage t (shown_over old) (shown_over new) (shown_over old) (shown_over old) at want found (λ p content lies. (lies, same_place old new reads p)) (node is))))
read_fails told t old new Memory reads none cause = cause.faults

-- what a tree sees after a block was read, whatever was counted
pub still_shown : (map : Volume) (pool after : Pool) (disk later : Disk) (steps made : ℕ) (home : Home) (room strays : ℕ) (noted last : Noted) → LeavesPool pool after → OnlyReads disk later
    → IsUntouched (shown_over (lent_by pool map disk steps home room strays noted)) (shown_over (lent_by after map later made home room strays last))
still_shown map pool after disk later steps made home room strays noted last leaves reads = record {
  held = λ j. below 1048576 (λ w. block_of (leaves.kept j) (reads.stays.reads j) (held_entry map (leaves.containers j) home.slot w));
  used = λ j. use_under map (leaves.containers j) home.slot;
  strays = refl;
  room = refl;
  cost = refl;
  right = λ v pvbn is. subst (λ (s : Slots). IsRightPlace (held_entry map s home.slot v) pvbn) (sym leaves.containers) is;
}

-- the blocks that kept blocks, entries, maps and reads show
abbrev pub blocks_of : Blocks → Slots → Volume → ℕ → Image → Under
blocks_of kept slots map slot i = λ v. fin.get (below 1048576 (λ w. block_of kept i (held_entry map slots slot w))) v

-- what holds of the parts that a call had is said of the caller's
pub of_lent : {K S M D H : Type 0} (says : K → S → M → D → H → Type 0) {p q : K} {s t : S} {m n : M} {d e : D} {h k : H} → p ≡ q → s ≡ t → m ≡ n → d ≡ e → h ≡ k → says p s m d h → says q t n e k
of_lent says {p = p} {q = q} {s = s} {t = t} {m = m} {n = n} {d = d} {e = e} {h = h} kept slots map disk home is =
    subst (λ x. says q t n e x) home (subst (λ x. says q t n x h) disk (subst (λ x. says q t x d h) map (subst (λ x. says q x m d h) slots (subst (λ x. says x s m d h) kept is))))

-- So it is where the entries, the maps and the home alone are spoken of.
pub of_entries : {S M H : Type 0} (says : S → M → H → Type 0) {s t : S} {m n : M} {h k : H} → s ≡ t → m ≡ n → h ≡ k → says s m h → says t n k
of_entries says {s = s} {t = t} {m = m} {n = n} {h = h} {k = k} slots map home is = subst (λ x. says t n x) home (subst (λ x. says t x h) map (subst (λ x. says x m h) slots is))
