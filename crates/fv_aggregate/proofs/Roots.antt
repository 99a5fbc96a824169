-- The root that counts, along the calls of a session.
use Rattle.std.proofs.Common.{◌≡◌, ◌⊎◌, ℕ, Bool, Option, Some, sym, ap, ap₂, subst, ◌∙◌}
use Rattle.std.specs.Prelude.{IsTrue}
use Rattle.fv_disk.specs.Shown.{Image, Shown}
use Rattle.fv_disk.specs.DiskCalls.{OnlyReads}
use Rattle.fv_codec.specs.Blocks.{gate_open}
use Rattle.fv_image.specs.Layout.{gate_place}
use Rattle.fv_image.specs.NewerRoot.{Taken}
use Rattle.fv_root.specs.declared.find.Found.{Found}
use Rattle.fv_root.specs.Finding.{IsFound, other_slot, root_found}
use Rattle.fv_cp.specs.Points.{IsNextRoot}
use Rattle.fv_aggregate.specs.declared.session.Session.{Session}
use Rattle.fv_aggregate.specs.Calls.{KeepsRoot}
use Rattle.fv_aggregate.specs.Standing.{StandsReady}

-- ---- an image has one

same_taken : (t u : Taken) → ◌≡◌ {A = Option Taken} (Some t) (Some u) → t ≡ u
same_taken t u e = cc

pub same_found : (i : Image) (f g : Found) → IsFound i f → IsFound i g → f ≡ g
same_found i f g one two =
    let same : root_found f ≡ root_found g = same_taken (root_found f) (root_found g) (sym one.root ∙ two.root) in
    let slot : f.slot ≡ g.slot = ap (λ (t : Taken). t.slot) same in
    let older : f.older_open ≡ g.older_open = sym one.older ∙ ap (λ (n : ℕ). gate_open (i (gate_place (other_slot n)))) slot ∙ two.older in
    ap₂ (λ (t : Taken) (o : Bool). let w : Found = record { blocks = t.blocks; slot = t.slot; root = t.root; older_open = o } in w) same older

-- so two sessions on one disk have the same
pub found_stands : (disk : Shown) (session other : Session) → IsTrue disk.tells → StandsReady disk session → StandsReady disk other → other.pool.found ≡ session.pool.found
found_stands disk session other tells one two = same_found disk.reads other.pool.found session.pool.found (two.stands.found tells).reads (one.stands.found tells).reads

-- and so have those between which the disk was only read
pub found_read : (d e : Shown) (s n : Session) → OnlyReads d e → IsTrue d.tells → StandsReady d s → StandsReady e n → n.pool.found ≡ s.pool.found
found_read d e s n reads tells one two =
    same_found d.reads n.pool.found s.pool.found (subst (λ (i : Image). IsFound i n.pool.found) reads.stays.reads (two.stands.found (subst IsTrue (sym reads.stays.tells) tells)).reads) (one.stands.found tells).reads

-- ---- along two calls

module _ (s n new : Session) where
  -- the first left it
  pub keeps_later : n.pool.found ≡ s.pool.found → KeepsRoot n new → KeepsRoot s new
  keeps_later same keeps = subst (λ (f : Found). (new.pool.found ≡ f) ⊎ IsNextRoot f new.pool.found) same keeps

  -- the second left it
  pub keeps_earlier : KeepsRoot s n → new.pool.found ≡ n.pool.found → KeepsRoot s new
  keeps_earlier keeps same = subst (λ (f : Found). (f ≡ s.pool.found) ⊎ IsNextRoot s.pool.found f) (sym same) keeps
