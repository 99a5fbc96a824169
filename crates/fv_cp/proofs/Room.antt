-- The space rule of what a point leaves, once its chosen regions were reclaimed; and that they were chosen for just what it lacked.
use Rattle.std.proofs.Common.{◌≡◌, ℕ, ◌+◌, ◌-◌, ◌*◌, ◌^◌, ◌<◌, ◌≤◌, List, max, true, length, refl, sym, ap, subst, ◌∙◌, arith}
use Rattle.std.specs.Prelude.{Option, Some, None, IfSome, nat_le, sum_by}
use Rattle.std.specs.List.{list_all}
use Rattle.std.specs.Option.{option_map, option_map_or}
use Rattle.std.proofs.lemmas.Bool.Decides.{nat_tests}
use Rattle.std.proofs.lemmas.Option.{none-some, same_Some}
use Rattle.fv_disk.specs.Shown.{Image}
use Rattle.fv_model.specs.Machines.{capacity, first_block}
use Rattle.fv_model.specs.Space.{need, overhead}
use Rattle.fv_image.specs.Containers.{most_entries}
use Rattle.fv_image.specs.Views.{Head, View, slots, overheads}
use Rattle.fv_image.specs.Volumes.{volume_told}
use Rattle.fv_image.specs.Seen.{Seen, VolumeSeen, seen, volume_seen}
use Rattle.fv_image.specs.Soundness.{AreMaps, AreTables}
use Rattle.fv_image.specs.VolumeRules.{commits_seen, has_commits_in_capacity, uses_seen}
use Rattle.fv_image.proofs.LabelNumbers.{label_numbers}
use Rattle.fv_image.proofs.OwnUses.{HasLabelNumbers}
use Rattle.fv_image.proofs.Points.{UsesOwn}
use Rattle.fv_image.proofs.SameSeen.{seen_at}
use Rattle.fv_container.specs.Chains.{container_at}
use Rattle.fv_container.specs.Mapped.{Mapped}
use Rattle.fv_root.specs.Formatted.{IsSize}
use Rattle.fv_delay.specs.declared.regions.Region.{Region}
use Rattle.fv_delay.specs.Choice.{chosen}
use Rattle.fv_delay.specs.Holding.{AreHoldingsOf, AreLeft, Holding, all_delayed, counts_of, has_region, held_by}
use Rattle.fv_delay.proofs.AllVolumes.{each_named}
use Rattle.fv_delay.proofs.RoomLeft.{room_left, rule_left}
use Rattle.fv_pool.specs.declared.pool.Pool.{Pool}
use Rattle.fv_volume.specs.declared.state.VolumeState.{VolumeState}
use Rattle.fv_volume.specs.Files.{AreStates, IsLabelled, IsState}
use Rattle.fv_volumes.specs.Housed.{AreHoused}
use Rattle.fv_volume.specs.Labels.{label_said}
use Rattle.fv_volume.specs.Loading.{Houses}
use Rattle.fv_volume.specs.States.{States, head_in, state_at, view_over}
use Rattle.fv_volume.specs.Trees.{no_trees}
use Rattle.fv_volume.proofs.Labels.{label_head}
use Rattle.fv_volumes.proofs.Told.{head_at, head_there}
use Rattle.fv_cp.specs.Choosing.{CountsMissing, LeavesRoom, greatest_number, holding_with, holdings, lacking, claimed, missing_for, regions_chosen}
use Rattle.fv_cp.proofs.Missing.{few_delayed, lacks_missing, missing_is, none_needed, uses_claimed, uses_promised}
use Rattle.fv_cp.proofs.OwnCharged.{IsLone, owns_used}
use Rattle.fv_volume.proofs.TablesOf.{head_whole}

-- the entries of a volume's container are few
few_entries : (pool : Pool) (states : States) → AreHoused pool.containers states → (s : ℕ) (x : Holding) → holdings pool.containers states s ≡ Some x → length x.container.entries ≤ most_entries
few_entries pool states housed s x some = by (state_at states s) (container_at pool.containers s) (housed.volumes s) (housed.each s) some
  where
    by : (o : Option VolumeState) (c : Option Mapped) → IfSome o (IsLabelled s) → Houses o c → holding_with o c ≡ Some x → length x.container.entries ≤ most_entries
    by None c labelled houses is = absurd (none-some x is)
    by (Some y) None labelled houses is = absurd houses
    by (Some y) (Some map) labelled houses is =
        let same : held_by y.map map ≡ x = same_Some (held_by y.map map) x is in
        let long : length x.container.entries ≡ length map.entries = ap (λ (h : Holding). length h.container.entries) (sym same) in
        omega (arith, long, houses, labelled.span)

-- Volumes that a view tells as the session did.
module _ (pool : Pool) (states : States) (i : Image) (housed : AreHoused pool.containers states) (size : IsSize pool.found.blocks) (are : AreStates (view_over pool states i) no_trees states)
    (v : View) (heads : (s : ℕ) → v.head s ≡ (view_over pool states i).head s) (same : seen v ≡ seen (view_over pool states i)) (blocks : v.blocks ≡ pool.found.blocks) (tables : AreTables (seen v)) where
  abbrev w : View
  w = view_over pool states i

  abbrev old : ℕ → Option Holding
  old = holdings pool.containers states

  overheads_same : overheads v ≡ overheads w
  unfolding overheads
  overheads_same = λ k. sum_by (λ s. option_map_or (λ h. overhead h.span) (heads s k) 0) slots

  used : 2 * overheads v + uses_seen (seen v) ≡ claimed states
  used = let uses_same = ap uses_seen same in let needed = uses_claimed pool states i housed.long are in omega (arith, overheads_same, uses_same, needed)

  committed : commits_seen (seen v) ≤ capacity v.blocks
  unfolding has_commits_in_capacity seen
  committed = let fits : nat_le (commits_seen (seen v)) (capacity v.blocks) ≡ true = tables.commits in grind (arith, nat_tests, fits)

  small : (room : ℕ) → room < 2 ^ 63 → (2 * overheads v + uses_seen (seen v)) + all_delayed old + max 256 room ≤ greatest_number
  small room fits = omega (arith, fits, committed, uses_promised v tables, few_delayed old (few_entries pool states housed), blocks, size.greatest)

  -- ---- what is missing

  -- a volume is told as the session did
  told_same : (s : ℕ) (x : VolumeState) → s < 64 → state_at states s ≡ Some x → volume_told v s (head_in x) ≡ volume_told w s (head_in x)
  unfolding volume_seen
  told_same s x inside is =
      let over : w.head s ≡ Some (head_in x) = head_there pool states i s x is in
      ap (λ (z : VolumeSeen). z.volume) (same_Some (volume_seen v s (head_in x)) (volume_seen w s (head_in x)) (sym (seen_at v s (head_in x) inside (heads s ∙ over)) ∙ ap (λ (z : Seen). z.volume s) same ∙ seen_at w s (head_in x) inside over))

  -- what holds of each volume's head holds of all heads of the view
  of_head : (P : ℕ → Head → Type 0) → ((s : ℕ) (x : VolumeState) → state_at states s ≡ Some x → IsState w no_trees s x → P s (head_in x)) → (s : ℕ) (h : Head) → v.head s ≡ Some h → P s h
  of_head P each s h there = by (state_at states s) refl
    where
      by : (o : Option VolumeState) → state_at states s ≡ o → P s h
      by None is = absurd (none-some h (sym (heads s ∙ head_at pool states i s ∙ ap (option_map head_in) is) ∙ there))
      by (Some x) is =
          let head : head_in x ≡ h = same_Some (head_in x) h (sym (heads s ∙ head_there pool states i s x is) ∙ there) in
          subst (P s) head (each s x is (subst (λ (o : Option VolumeState). IfSome o (IsState w no_trees s)) is (are.each s)))

  -- each label has its numbers
  label_has : (s : ℕ) (h : Head) → v.head s ≡ Some h → HasLabelNumbers h
  label_has = of_head (λ s h. HasLabelNumbers h) (λ s x is state. let label = state.labelled in
      subst HasLabelNumbers (label_head x label.named label.snapshots 0 1) (label_numbers (label_said x 0 1) (label.label 0 1 (omega arith) (omega arith) (omega arith))))

  -- it needs nothing for reserves
  lone : (s : ℕ) (h : Head) → s < 64 → v.head s ≡ Some h → IsLone v s h
  lone s h inside there = of_head (λ s h. s < 64 → v.head s ≡ Some h → IsLone v s h) (λ s x is state inside there. record {
    numbers = label_has s (head_in x) there;
    order = state.labelled.snapshots.slots;
    parents = λ b g based parent. label_has b.parent g parent;
    whole = head_whole s x state.labelled;
    need = ap need (told_same s x inside is) ∙ none_needed pool states i housed.long are s x is state;
  }) s h there inside there

  -- What is counted as missing is just what the space rule lacks by the entries that the volumes have, with what they had delayed.
  pub counts_missing : AreMaps v → (want : ℕ) → CountsMissing pool states v want
  unfolding lacking
  counts_missing maps want fits =
      let owned = owns_used v tables maps lone in
      missing_is pool states want (2 * overheads v + uses_seen (seen v)) used (small want fits)
      ∙ (λ k. ((2 * overheads v + sym owned k) + all_delayed old + max 256 want) - (sym blocks k - first_block (sym blocks k)))

  -- ---- what is left

  -- The chosen regions were reclaimed.
  module _ (uses : UsesOwn v)
      (regions : List Region) (want : ℕ) (right : regions ≡ regions_chosen pool states want) (new : ℕ → Option Holding) (left : AreLeft (has_region regions) (holdings pool.containers states) new) (shown : AreHoldingsOf v new) where
    abbrev missing : ℕ
    missing = missing_for pool states want

    large : 256 ≤ v.blocks - first_block v.blocks
    large = omega (arith, blocks, size.least, size.greatest)

    lacks : (room : ℕ) → room ≤ capacity v.blocks → max 256 room ≤ max 256 want → ((2 * overheads v + uses_seen (seen v)) + all_delayed old + max 256 room) - (v.blocks - first_block v.blocks) ≤ missing
    lacks room fits less = subst (λ (n : ℕ). ((2 * overheads v + uses_seen (seen v)) + all_delayed old + max 256 room) - (n - first_block n) ≤ missing) (sym blocks)
        (lacks_missing pool states want room (2 * overheads v + uses_seen (seen v)) (let e = used in omega (arith, e)) less (small room (omega (arith, fits, blocks, size.greatest))))

    all_named : list_all (λ c. has_region regions c.slot c.region) (chosen (counts_of old) missing) ≡ true
    all_named = ap (λ (rs : List Region). list_all (λ c. has_region rs c.slot c.region) (chosen (counts_of old) missing)) right ∙ each_named (chosen (counts_of old) missing)

    -- The space rule holds, with the room that was wanted where the commits leave that.
    pub leaves : LeavesRoom v want
    leaves = record {
      rule = rule_left v tables uses large (has_region regions) old new left shown missing all_named (lacks 0 (omega arith) (omega arith));
      wanted = λ fits. room_left v tables uses large (has_region regions) old new left shown missing all_named want fits (lacks want (omega (arith, fits)) (omega arith));
    }
