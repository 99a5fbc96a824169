-- A volume that was loaded, with no file of it in memory, over an image that stands for a machine: it stands for one of that machine.
use Rattle.std.proofs.Common.{◌≡◌, ℕ, List, Bool, length, Option, Some, sym, ap, subst, ◌∙◌}
use Rattle.std.specs.Prelude.{IfSome, IsTrue, None}
use Rattle.fv_disk.specs.Shown.{Shown}
use Rattle.fv_bits.specs.Members.{is_member}
use Rattle.fv_model.specs.Machines.{Machine}
use Rattle.fv_image.specs.Held.{layout_at}
use Rattle.fv_image.specs.Views.{View}
use Rattle.fv_root.specs.Finding.{root_found}
use Rattle.fv_aggmap.specs.Loading.{IsLoaded as IsMapLoaded}
use Rattle.fv_container.specs.Chains.{slot_count}
use Rattle.fv_files.specs.Numbering.{AreNumbersIf}
use Rattle.fv_pool.specs.declared.pool.Pool.{Pool}
use Rattle.fv_pool.specs.Opening.{IsAsFound}
use Rattle.fv_volume.specs.declared.state.VolumeState.{VolumeState}
use Rattle.fv_pool.specs.BlocksOver.{AreApart}
use Rattle.fv_volume.specs.Files.{IsLabelled, IsState}
use Rattle.fv_volume.specs.Loading.{LoadedTo}
use Rattle.fv_volume.specs.Numbering.{AreNumbersSeen}
use Rattle.fv_volume.specs.OneVolume.{table_for, IsStanding}
use Rattle.fv_volume.specs.Placing.{IsLedTo, IsStoredWell}
use Rattle.fv_volume.specs.States.{States, head_in, state_at, view_over}
use Rattle.fv_volume.specs.Trees.{active_in, no_trees}
use Rattle.fv_volumes.proofs.Apart.{entries_apart, sound_holds}
use Rattle.fv_volumes.proofs.LoadedTables.{StandsInView, in_view}
use Rattle.fv_volumes.proofs.CleanSlots.{loaded_clean}
use Rattle.fv_volumes.proofs.Standings.{active_is, seen_led, seen_standing, seen_table, seen_well}
use Rattle.fv_volumes.proofs.Told.{head_there}
use Rattle.fv_image.specs.WholeMachine.{Tells}
use Rattle.fv_volume.specs.Files.{AreStates}
use Rattle.fv_volumes.specs.Footing.{AreFooted}
use Rattle.fv_volumes.specs.Housed.{AreHoused}

module _ (disk : Shown) (pool : Pool) (states : States) (housed : AreHoused pool.containers states) (loaded : LoadedTo disk.reads pool.found slot_count states pool.containers) (unkept : IsAsFound pool)
    (few : length pool.containers.containers ≡ 64) (whole : (b : ℕ) → length (disk.reads b) ≡ 4096) (m : Machine) (told : Tells (layout_at (root_found pool.found) disk.reads) m) (x : VolumeState) (there : state_at states x.slot ≡ Some x) (no_files : x.files ≡ None) where
  abbrev w : View
  w = view_over pool states disk.reads

  in_slot : (t : ℕ) (y : VolumeState) → state_at states t ≡ Some y → (y.slot ≡ t) × StandsInView disk pool states y
  in_slot t y here =
      let labelled : IsLabelled t y = subst (λ (o : Option VolumeState). IfSome o (IsLabelled t)) here (housed.volumes t) in
      let at : y.slot ≡ t = labelled.slot_is in
      (at, in_view disk pool states housed.long few housed.parents loaded unkept m told whole y (ap (state_at states) at ∙ here) (subst (λ (n : ℕ). IsLabelled n y) (sym at) labelled))

  abbrev stands : StandsInView disk pool states x
  stands = (in_slot x.slot x there).1

  -- its table is told as by the view
  told_as : table_for disk pool x ≡ active_in w no_trees x.slot
  told_as = seen_table disk pool states x stands no_files ∙ sym (active_is w x.slot (head_in x) (head_there pool states disk.reads x.slot x there))

  pub led : IsLedTo disk pool x
  led = seen_led disk pool states x stands no_files

  pub well : IsStoredWell disk pool x
  well = seen_well disk pool states x stands no_files

  module _ (are : AreStates w no_trees states) (map : IsMapLoaded disk.reads pool.found pool.map) (tells : IsTrue disk.tells) (footed : AreFooted states pool.containers) where
    apart : AreApart pool x.map x.slot
    apart = entries_apart (root_found pool.found) disk.reads pool (sound_holds (layout_at (root_found pool.found) disk.reads) told.sound) (record { few = few; each = λ s inside. (loaded.each s inside).tree })
        (λ b bit. ap (λ (set : List Bool). is_member set b) map.same ∙ (map.bits b ∙ bit)) x.map x.slot

    pub standing : AreNumbersSeen w x.slot (Some x) → IsStanding disk pool x
    standing numbered = seen_standing disk pool states x stands footed in_slot no_files tells apart
        (loaded_clean pool.found disk.reads states pool.containers whole told.sound few loaded)
        (subst (λ (o : Option VolumeState). IfSome o (IsState w no_trees x.slot)) there (are.each x.slot)) (subst (AreNumbersIf x.numbers) (sym told_as) numbered)
