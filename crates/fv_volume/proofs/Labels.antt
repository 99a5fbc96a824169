-- The label of a volume: its fields are in range, and it says what the volume is.
use Rattle.std.proofs.Common.{◌≡◌, ◌≢◌, ℕ, ◌+◌, ◌-◌, ◌<◌, ◌≤◌, Bool, true, false, not, cond, List, ◌++◌, length, take, replicate, Option, Some, None, refl, sym, ap, subst, ◌∙◌, arith}
use Rattle.std.specs.Prelude.{All, IfSome, ◌%◌, ◌==◌, if◌then◌else◌, min}
use Rattle.std.specs.Option.{option_map}
use Rattle.std.proofs.Math.Seq.{take-append_seam}
use Rattle.std.proofs.lemmas.Bool.Decides.{nat_tests}
use Rattle.fv_codec.specs.Blocks.{IsLabel, IsPointer, IsSnapRecord, is_used, last_place, most_stamps}
use Rattle.fv_codec.specs.Fields.{up_to}
use Rattle.fv_model.specs.Numbers.{most_snapshots}
use Rattle.fv_model.specs.declared.commands.Kind.{Kind}
use Rattle.fv_model.specs.declared.commands.Kind.TheVariants.{Volume as Whole, File as ByFile, Thin}
use Rattle.fv_model.specs.Spelling.{is_name}
use Rattle.fv_image.specs.Views.{Footing, head_of, kind_named}
use Rattle.fv_container.specs.Chains.{slot_count}
use Rattle.fv_files.specs.declared.files.Files.{Files}
use Rattle.fv_files.specs.declared.numbers.FileNumbers.{FileNumbers}
use Rattle.fv_charge.specs.declared.ledger.Ledger.{Ledger}
use Rattle.fv_volmap.specs.Slots.{Volume as MapSlots, slot_at}
use Rattle.fv_pool.specs.declared.rooted.Rooted.{Rooted}
use Rattle.fv_volume.specs.declared.state.Snap.{Snap}
use Rattle.fv_volume.specs.declared.state.VolumeState.{VolumeState}
use Rattle.fv_volume.specs.Labels.{base_slot_said, kind_number, label_said, parent_said, splitting_said}
use Rattle.fv_volume.specs.SnapRecords.{records_said, AreSayable}
use Rattle.fv_volume.specs.Files.{IsLabelled}
use Rattle.fv_volume.specs.States.{footing_in, head_in, snaps_in}
use Rattle.fv_volume.proofs.MapSlots.{same_sayable, same_slots, slots_kept}
use Rattle.fv_volume.proofs.Naming.{filled, parts}
use Rattle.fv_volume.proofs.SnapRecords.{all_said, snaps_again}

-- ---- the fields

pub kind_least : (k : Kind) → kind_number k ≤ 2
kind_least Whole = omega arith
kind_least ByFile = omega arith
kind_least Thin = omega arith

-- what a label can say that a volume stands on, which isn't being split
pub record IsSayableBase (b : Footing) : Type 0 where
  pub inside : b.parent < slot_count
  pub least : 1 ≤ b.slot
  pub greatest : b.slot ≤ most_snapshots
  pub whole : b.splitting ≡ false

-- as a label has it, it is in range
pub record IsBaseSaid (p slot s known : ℕ) : Type 0 where
  pub parent : p ≤ 64
  pub base_least : up_to (is_used p) 1 ≤ slot
  pub base_greatest : slot ≤ up_to (is_used p) most_snapshots
  pub splitting : s ≤ up_to (is_used p) 1
  pub all_known : known ≤ up_to (s == 0) 1

at_most_one : (t : Bool) → cond t 1 0 ≤ 1
at_most_one true = omega arith
at_most_one false = omega arith

base_said : (o : Option Footing) → IfSome o IsSayableBase → (known : Bool) → IsBaseSaid (parent_said o) (base_slot_said o) (splitting_said o) (cond known 1 0)
base_said None is known = record { parent = omega arith; base_least = omega arith; base_greatest = omega arith; splitting = omega arith; all_known = at_most_one known }
base_said (Some b) is known =
    let used : is_used (b.parent + 1) ≡ true = (let some : ((b.parent + 1) == 0) ≡ false = grind (arith, nat_tests) in ap not some) in
    let inside = is.inside in
    record {
      parent = omega (arith, inside);
      base_least = subst (λ (t : Bool). up_to t 1 ≤ b.slot) (sym used) is.least;
      base_greatest = subst (λ (t : Bool). b.slot ≤ up_to t most_snapshots) (sym used) is.greatest;
      splitting = subst (λ (s : Bool). cond s 1 0 ≤ up_to (is_used (b.parent + 1)) 1) (sym is.whole) (omega arith);
      all_known = subst (λ (s : Bool). cond known 1 0 ≤ up_to (cond s 1 0 == 0) 1) (sym is.whole) (at_most_one known);
    }

-- a volume whose numbers are such as a label can say
pub record IsSayable (x : VolumeState) : Type 0 where
  pub name : is_name x.name ≡ true
  pub size_least : 1 ≤ x.size
  pub size_greatest : x.size ≤ min 500000 x.most
  pub most_least : 2 ≤ x.most
  pub most_greatest : x.most ≤ 1000000
  pub span_least : 4096 ≤ x.span
  pub span_greatest : x.span ≤ 1048576
  pub span_step : x.span % 4096 ≡ 0
  pub now : x.now ≤ most_stamps
  pub levels : x.active.levels ≤ 2
  pub root : IsPointer x.active.root
  pub base : IfSome (head_in x).base IsSayableBase
  pub snapshots : AreSayable (head_in x)

pub label_range : (x : VolumeState) → IsSayable x → (container height : ℕ) → container ≤ last_place → 1 ≤ height → height ≤ 2 → IsLabel (label_said x container height)
unfolding label_said
label_range x is container height placed least greatest =
    let sizes = parts x.name is.name in
    let name_least = sizes.0 in
    let name_greatest = sizes.1.0 in
    let name = filled x.name is.name in
    let kind = kind_least x.kind in
    let base = base_said (head_in x).base is.base x.known in
    let snapshots = all_said (head_in x) is.snapshots in
    search (is, name_least, name_greatest, name, kind, base, placed, least, greatest, snapshots)

-- ---- what the label says

flag_again : (t : Bool) → (cond t 1 0 == 1) ≡ t
flag_again true = refl
flag_again false = refl

kind_again : (k : Kind) → kind_named (kind_number k) ≡ k
kind_again Whole = refl
kind_again ByFile = refl
kind_again Thin = refl

-- what a label says that a volume stands on, by these numbers
abbrev footing_said : ℕ → ℕ → ℕ → Option Footing
footing_said parent slot splitting = if parent == 0 then None else Some (record { parent = parent - 1; slot = slot; splitting = splitting == 1 })

base_again : (o : Option Footing) → footing_said (parent_said o) (base_slot_said o) (splitting_said o) ≡ o
base_again None = refl
base_again (Some b) =
    let some : ((b.parent + 1) == 0) ≡ false = grind (arith, nat_tests) in
    let parent : b.parent + 1 - 1 ≡ b.parent = omega arith in
    ap (λ (t : Bool). if t then None else Some (record { parent = b.parent + 1 - 1; slot = b.slot; splitting = cond b.splitting 1 0 == 1 })) some
    ∙ (λ i. Some (record { parent = parent i; slot = b.slot; splitting = flag_again b.splitting i }))

-- a label says its volume's head
pub label_head : (x : VolumeState) → is_name x.name ≡ true → AreSayable (head_in x) → (container height : ℕ) → head_of (label_said x container height) ≡ head_in x
unfolding head_of label_said
label_head x named said container height =
    let name : take (length x.name) (x.name ++ replicate (64 - length x.name) 0) ≡ x.name = take-append_seam x.name (replicate (64 - length x.name) 0) in
    (λ i. record {
      name = name i;
      kind = kind_again x.kind i;
      size = x.size;
      most = x.most;
      span = x.span;
      now = x.now;
      base = base_again (head_in x).base i;
      known = flag_again x.known i;
      active = record { levels = x.active.levels; root = x.active.root };
      snapshots = snaps_again (head_in x) said i;
    })

-- ---- a volume of which a consistency point told

-- volumes with one head have one label
pub same_label : (x y : VolumeState) → head_in y ≡ head_in x → (container height : ℕ) → label_said y container height ≡ label_said x container height
unfolding label_said
same_label x y head container height = (λ i. record {
  name_length = length (head i).name;
  name = (head i).name ++ replicate (64 - length (head i).name) 0;
  kind = kind_number (head i).kind;
  size = (head i).size;
  most = (head i).most;
  span = (head i).span;
  now = (head i).now;
  parent = parent_said (head i).base;
  base_slot = base_slot_said (head i).base;
  splitting = splitting_said (head i).base;
  known = cond (head i).known 1 0;
  container = container;
  height = height;
  levels = (head i).active.levels;
  root = (head i).active.root;
  snapshots = records_said (head i).snapshots;
})

-- A label can be said with another root and other snapshots, where these can be said.
pub label_turned : (x : VolumeState) (active : Rooted) (snapshots : List Snap) (container height : ℕ) → IsLabel (label_said x container height)
    → active.levels ≤ 2 → IsPointer active.root → All IsSnapRecord (records_said (snaps_in snapshots)) → IsLabel (label_said (record x { active = active; snapshots = snapshots }) container height)
unfolding label_said
label_turned x active snapshots container height is few fits said = search (is, few, fits, said)

-- Its label can be written where it has other numbers, maps whose snapshots' slots are the same, and a ledger of its span.
module _ (x : VolumeState) (now size : ℕ) (kind : Kind) (active : Rooted) (map : MapSlots) (files : Option Files) (ledger : Ledger) (numbers : Option FileNumbers) where
  abbrev as_changed : VolumeState
  as_changed = record x { now = now; size = size; kind = kind; active = active; map = map; files = files; numbers = numbers; ledger = ledger; changed = true }

  pub labelled_as : map.span ≡ x.map.span → ((k : ℕ) → k ≢ 0 → slot_at map k ≡ slot_at x.map k) → ledger.span ≡ x.ledger.span → active.levels ≤ 2
      → ((container height : ℕ) → IsLabel (label_said x container height) → IsLabel (label_said as_changed container height)) → IsLabelled x.slot x → IsLabelled x.slot as_changed
  labelled_as span slots counts few turned is = record {
    slot_is = is.slot_is;
    form = is.form;
    span = is.span;
    map = span ∙ is.map;
    snapshots = same_sayable (head_in as_changed) (head_in x) refl is.snapshots;
    slots = same_slots (head_in as_changed) (head_in x) map refl refl (slots_kept (head_in x) x.map map slots is.slots);
    waits = is.waits;
    counts = counts ∙ is.counts;
    levels = few;
    named = is.named;
    label = λ container height low least most. turned container height (is.label container height low least most);
  }
