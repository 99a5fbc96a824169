-- A disk of which just free blocks were written, and then a barrier was made: all that the root on the disk names stays, at each moment.
use Rattle.std.proofs.Common.{◌≡◌, ◌<◌, ◌≤◌, ◌/◌, ℕ, Bool, true, false, ◌||◌, List, length, Result, refl, sym, ap, subst, ◌∙◌, inl, ⊎_elim, arith}
use Rattle.std.specs.Prelude.{IsTrue, nat_lt}
use Rattle.std.proofs.lemmas.Bool.{cases_lt}
use Rattle.std.proofs.lemmas.Bool.Decides.{nat_tests}
use Rattle.fv_disk.specs.Shown.{Image, Shown, IsDisk}
use Rattle.fv_disk.specs.Crash.{Leaves}
use Rattle.fv_disk.specs.DiskCalls.{Settles}
use Rattle.fv_disk.specs.Sparing.{LeftBefore}
use Rattle.fv_disk.specs.declared.Failed.{Failed}
use Rattle.fv_disk.proofs.Moments.{goes_on, weaken}
use Rattle.fv_bits.specs.Members.{is_member}
use Rattle.fv_aggmap.specs.Space.{blocks_of, Space}
use Rattle.fv_bits.specs.Bits.{bit_of_area}
use Rattle.fv_codec.specs.Blocks.{gate_open}
use Rattle.fv_container.specs.Clean.{IsCleanOn}
use Rattle.fv_model.specs.declared.commands.Kind.{Kind}
use Rattle.fv_model.specs.Machines.{first_block, Machine}
use Rattle.fv_image.specs.Held.{Keeps, Layout, is_held, layout_at, view_at}
use Rattle.fv_image.specs.Layout.{area_blocks, area_place, gate_place}
use Rattle.fv_image.specs.Maps.{area_bits, map_bit}
use Rattle.fv_image.specs.NewerRoot.{Taken}
use Rattle.fv_image.specs.WholeMachine.{Tells}
use Rattle.fv_image.proofs.Kept.{area_before, slot_is_small}
use Rattle.fv_image.proofs.SameLayout.{kept, same_root}
use Rattle.fv_root.specs.declared.find.Found.{Found}
use Rattle.fv_root.specs.Commits.{IsFoundOn}
use Rattle.fv_root.specs.Finding.{IsFound, other_slot, root_found}
use Rattle.fv_places.specs.ByKind.{form_of}
use Rattle.fv_places.specs.Changed.{Blanks}
use Rattle.fv_pool.specs.declared.pool.Pool.{Pool}
use Rattle.fv_pool.specs.Keeping.{seen}
use Rattle.fv_volume.specs.States.{States}
use Rattle.fv_volume.specs.Writing.{IsTaken, on_disk}
use Rattle.fv_volumes.specs.UnderRoot.{IsMapOf}
use Rattle.fv_volumes.proofs.LentSlots.{area_taken, held_taken}
use Rattle.fv_volumes.proofs.RootFound.{fixed_taken}
use Rattle.fv_volumes.proofs.Staying.{kept_stands}
use Rattle.fv_mirror.specs.declared.admitting.Admitted.{Admitted}
use Rattle.fv_mirror.specs.Making.{IsMirrored, LeavesOthers}
use Rattle.fv_cp.specs.Held.{IsHeld}
use Rattle.fv_aggregate.specs.Mirroring.{WritesFree}
use Rattle.fv_aggregate.specs.Standing.{OneOf}

-- what is free by both sets is free by that of the root on the disk
pub on_disk_taken : (map : Space) (b : ℕ) → IsTaken (on_disk map) b → IsTaken map b
on_disk_taken map b taken free = taken (record { after = free.after; within = free.within; free = low (is_member map.committed b) (is_member map.next b) free.free })
  where
    low : (m n : Bool) → (m || n) ≡ false → (m || m) ≡ false
    low true n e = e
    low false n e = refl

-- ---- what the copying leaves

pub writes_free : (disk : Shown) (pool : Pool) (after : Shown) (left : Pool) → LeavesOthers disk pool after left → WritesFree pool.map disk after
writes_free disk pool after left is = record {
  ends = record { tells = is.tells; given = is.given tt; ends = is.ends tt };
  reads = is.reads;
  images = is.images;
  any_moment = weaken disk after (λ c g. LeftBefore (IsTaken pool.map) disk c × (Unit {0} → g ≡ disk.given)) (λ c g. LeftBefore (IsTaken pool.map) disk c × (g ≡ disk.given)) (λ c g spared. (spared.0, spared.1 tt)) is.any_moment;
}

-- ---- a barrier behind it

module _ (disk mid after : Shown) (r : Result Unit Failed) (settles : Settles mid after r) where
  pub free_settled : (map : Space) → WritesFree map disk mid → WritesFree map disk after
  free_settled map is = record {
    ends = record { tells = settles.tells ∙ is.ends.tells; given = settles.given ∙ is.ends.given; ends = settles.ends ∙ is.ends.ends };
    reads = λ tells b taken. ap (λ (i : Image). i b) settles.reads ∙ is.reads tells b taken;
    images = λ c now. is.images c (settles.no_more c now);
    any_moment = goes_on disk mid after (λ c g. LeftBefore (IsTaken map) disk c × (g ≡ disk.given)) is.any_moment settles.time (λ c now. (is.images c (settles.no_more c now), settles.given ∙ is.ends.given));
  }

  pub others_settled : (pool left : Pool) → LeavesOthers disk pool mid left → LeavesOthers disk pool after left
  others_settled pool left is = record {
    containers = is.containers;
    found = is.found;
    version = is.version;
    committed = is.committed;
    free = is.free;
    held = is.held;
    fewer = is.fewer;
    kept = is.kept;
    tells = settles.tells ∙ is.tells;
    given = λ q. settles.given ∙ is.given q;
    ends = λ q. settles.ends ∙ is.ends q;
    reads = λ tells b taken. ap (λ (i : Image). i b) settles.reads ∙ is.reads tells b taken;
    images = λ c now. is.images c (settles.no_more c now);
    any_moment = goes_on disk mid after (λ c g. LeftBefore (IsTaken pool.map) disk c × (Unit {0} → g ≡ disk.given)) is.any_moment settles.time (λ c now. (is.images c (settles.no_more c now), λ q. settles.given ∙ is.given q));
  }

  pub mirrored_settled : (states : States) (pool : Pool) (name : List ℕ) (size : ℕ) (kind : Kind) (a : Admitted) (new : States) (left : Pool) → IsMirrored disk states pool name size kind a mid new left → IsMirrored disk states pool name size kind a after new left
  mirrored_settled states pool name size kind a new left is = record {
    admits = is.admits;
    state = is.state;
    is = is.is;
    row = is.row;
    container = is.container;
    there = is.there;
    containers = is.containers;
    long = is.long;
    nowhere = is.nowhere;
    copied = λ source. let copies = is.copied source in record {
      copies = λ v member. let c = copies.copies v member in record {
        from = c.from;
        entry = c.entry;
        there = c.there;
        here = c.here;
        kind = c.kind;
        free = c.free;
        taken = c.taken;
        unkept = c.unkept;
        shaped = c.shaped;
        blank = subst (λ (i : Image). Blanks (form_of c.from.kind) (seen pool.kept disk.reads c.from.pvbn) (i c.entry.pvbn)) (sym settles.reads) c.blank;
      };
      holes = copies.holes;
      apart = copies.apart;
      clean = subst (λ (i : Image). IsCleanOn i is.container) (sym settles.reads) copies.clean;
      stay = copies.stay;
      come = copies.come;
    };
  }

-- ---- where a session stands for a machine

found_in : (f : Found) (i j : Image) → ((b : ℕ) → b < 5 → j b ≡ i b) → IsFound i f → IsFound j f
found_in f i j same is = record {
  root = same_root i j same ∙ is.root;
  older = ap gate_open (same (gate_place (other_slot f.slot)) (omega arith)) ∙ is.older;
}

-- what is found stays
pub found_free : (disk after : Shown) (map : Space) (found : Found) → WritesFree map disk after → IsTrue disk.tells → IsFoundOn disk found → IsFoundOn after found
found_free disk after map found free tells is = record {
  reads = found_in found disk.reads after.reads (λ b low. free.reads tells b (fixed_taken map b low)) is.reads;
  images = λ c now. let before = free.images c now in found_in found before.0 c (λ b low. before.2 b (fixed_taken map b low)) (is.images before.0 before.1);
}

same_bit : (t : Taken) (i j : Image) → ((k : ℕ) → k < area_blocks t.blocks → j (area_place t.blocks t.slot k) ≡ i (area_place t.blocks t.slot k)) → (b : ℕ) → map_bit t j b ≡ map_bit t i b
unfolding map_bit bit_of_area
same_bit t i j area b = ⊎_elim
    (λ (inside : b < area_bits t.blocks). let within : b / 32768 < area_blocks t.blocks = omega arith in rw (area (b / 32768) within) refl)
    (λ (past : area_bits t.blocks ≤ b). let test : nat_lt b (area_bits t.blocks) ≡ false = grind (arith, nat_tests) in rw test refl)
    (cases_lt b (area_bits t.blocks))

-- and so does the map of the root on the disk, whatever that holds
pub map_over : (disk after : Shown) (map : Space) (found : Found) → WritesFree map disk after → IsTrue disk.tells → IsFoundOn disk found → IsMapOf disk.reads found map → (new : Space) → new.committed ≡ map.committed → IsMapOf after.reads found new
map_over disk after map found free tells on is new same =
    let t = root_found found in
    let area : (k : ℕ) → k < area_blocks t.blocks → after.reads (area_place t.blocks t.slot k) ≡ disk.reads (area_place t.blocks t.slot k) =
    λ k within. free.reads tells (area_place t.blocks t.slot k) (λ taken.
    let low = area_before t k (slot_is_small disk.reads t on.reads.root) within in
    let first : first_block (blocks_of map) ≡ first_block found.blocks = ap first_block is.len in
    omega (arith, low, first, taken.after)) in
    record {
      len = ap length same ∙ is.len;
      bits = λ b. ap (λ (c : List Bool). is_member c b) same ∙ is.bits b ∙ sym (same_bit t disk.reads after.reads area b);
    }

module _ (disk : Shown) (pool : Pool) (states : States) (last : Machine) (held : IsHeld disk pool states last) where
  abbrev t : Taken
  t = root_found pool.found

  pub free_keeps : (c : Image) → LeftBefore (IsTaken pool.map) disk c → Keeps t disk.reads c
  free_keeps c left =
      let d : Image = left.0 in
      let was : Keeps t disk.reads d = held.keeps d left.1 in
      let still : Keeps t d c = kept t d c was.root (λ b low. left.2 b (fixed_taken pool.map b low)) (record {
        area = λ k within. left.2 (area_place t.blocks t.slot k) (on_disk_taken pool.map (area_place t.blocks t.slot k) (area_taken disk.reads pool.found pool.map held.tells.sound held.map k (slot_is_small d t was.root) within));
        held = λ b is. left.2 b (on_disk_taken pool.map b (held_taken disk.reads pool.found pool.map held.tells.sound held.map b (ap (λ (y : Layout). is_held y b) (sym was.layout) ∙ is)));
      }) in
      record { root = still.root; layout = still.layout ∙ was.layout }

  module _ (after : Shown) (free : WritesFree pool.map disk after) where
    -- at each moment the image stands for the machine of the last point
    pub free_moments : (m next : Machine) → Leaves disk after (λ c g. OneOf last m next c × (g ≡ disk.given))
    free_moments m next = weaken disk after (λ c g. LeftBefore (IsTaken pool.map) disk c × (g ≡ disk.given)) (λ c g. OneOf last m next c × (g ≡ disk.given))
        (λ c g spared. (inl (kept_stands t disk.reads c last held.tells (free_keeps c spared.0)), spared.1)) free.any_moment

    module _ (laws : IsDisk disk) (tells : IsTrue disk.tells) where
      pub reads_kept : Keeps t disk.reads after.reads
      reads_kept = free_keeps after.reads (disk.reads, laws.read_is_image tells, λ b taken. free.reads tells b taken)

      pub tells_free : Tells (layout_at t after.reads) last
      tells_free = subst (λ (y : Layout). Tells y last) (sym reads_kept.layout) held.tells

      pub keeps_free : (c : Image) → after.images c → Keeps t after.reads c
      keeps_free c now = let is = free_keeps c (free.images c now) in record { root = is.root; layout = is.layout ∙ sym reads_kept.layout }

      pub view_free : view_at t after.reads ≡ view_at t disk.reads
      unfolding layout_at
      view_free = ap (λ (y : Layout). y.view) reads_kept.layout

      pub map_free : (map : Space) → map.committed ≡ pool.map.committed → IsMapOf after.reads pool.found map
      unfolding layout_at
      map_free map same = record {
        len = ap length same ∙ held.map.len;
        bits = λ b. ap (λ (c : List Bool). is_member c b) same ∙ held.map.bits b ∙ sym (ap (λ (y : Layout). y.bit b) reads_kept.layout);
      }
