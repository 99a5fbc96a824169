-- What a command changes lies at its home.
use Rattle.std.proofs.Common.{◌≡◌, ◌≢◌, ℕ, Bool, true, false, cond, List, Option, Some, None, refl, sym, ap, ◌∙◌, is_some, fold, take, [], ◌∷◌}
use Rattle.std.specs.Option.{option_map, option_map_or}
use Rattle.std.specs.Ordering.{eq_by_cmp, is_eq}
use Rattle.std.specs.Cmp.{Equal-is, tied_itself}
use Rattle.std.specs.FinMap as fin
use Rattle.fv_model.specs.declared.commands.Kind.{Kind}
use Rattle.fv_model.specs.declared.commands.Command.{Command}
use Rattle.fv_model.specs.declared.commands.Command.TheVariants.{VolCreate, VolDestroy, VolResize, VolGuarantee, VolList, VolStat, New, Put, Get, Len, Cut, Remove, Ls, SnapCreate, SnapDelete, SnapRestore, SnapList, CloneCreate, SplitStart, SplitFinish, Mirror, Clean, Probe, Work, Cp}
use Rattle.fv_model.specs.Spelling.{name_cmp}
use Rattle.fv_model.specs.Tables.{File, Table, file_named, new, put, cut, rm}
use Rattle.fv_model.specs.Volumes.{Volume}
use Rattle.fv_model.specs.Machines.{Machine}
use Rattle.fv_model.specs.Effects.{Change, Stays, Becomes, Goes, changed, change_of, effect, at_volume, at_file, at_snapshot, stamped, empty_volume, clone_of, mirror_of, being_split}
use Rattle.fv_model.specs.Refusals.{refusal, next, home}
use Rattle.fv_model.specs.Runs.{Line, Says, NoCommand, OutOfRange, after_line, after}
use Rattle.fv_laws.specs.Isolation.{IsSameAt}
use Rattle.fv_laws.proofs.Orders.{name_total, name_ties}

-- a test of two equal names, and of two that differ
pub same_name : (q k : List ℕ) → eq_by_cmp name_cmp q k ≡ true → q ≡ k
same_name q k e = name_ties q k ((Equal-is (name_cmp q k)).0 e)

pub differs : (q k : List ℕ) → q ≢ k → eq_by_cmp name_cmp q k ≡ false
differs q k ne = elim (eq_by_cmp name_cmp q k) as (λ b. eq_by_cmp name_cmp q k ≡ b → b ≡ false) [ true ↦ λ e. absurd (ne (same_name q k e)) | false ↦ λ e. refl ] refl

pub itself : (q : List ℕ) → eq_by_cmp name_cmp q q ≡ true
itself q = ap is_eq (tied_itself name_total q)

pub volume_of : (m : Machine) (v : List ℕ) (happens : Volume → Change) (P : Change → Type 0) → P Stays → ((x : Volume) → fin.get m.volumes v ≡ Some x → P (happens x)) → P (at_volume m v happens)
volume_of m v happens P stays here =
    elim (fin.get m.volumes v) as (λ o. fin.get m.volumes v ≡ o → P (option_map_or happens o Stays)) [ None ↦ λ e. stays | (Some x) ↦ λ e. here x e ] refl

pub file_of : (x : Volume) (f : List ℕ) (happens : ℕ → File → Change) (P : Change → Type 0) → P Stays → ((n : ℕ) (file : File) → file_named x.active f ≡ Some (n, file) → P (happens n file)) → P (at_file x f happens)
file_of x f happens P stays here =
    elim (file_named x.active f) as (λ o. file_named x.active f ≡ o → P (option_map_or (λ e. happens e.0 e.1) o Stays)) [ None ↦ λ e. stays | (Some p) ↦ λ e. here p.0 p.1 e ] refl

pub snapshot_of : (x : Volume) (s : List ℕ) (happens : Table → Change) (P : Change → Type 0) → P Stays → ((t : Table) → fin.get x.snapshots s ≡ Some t → P (happens t)) → P (at_snapshot x s happens)
snapshot_of x s happens P stays here =
    elim (fin.get x.snapshots s) as (λ o. fin.get x.snapshots s ≡ o → P (option_map_or happens o Stays)) [ None ↦ λ e. stays | (Some t) ↦ λ e. here t e ] refl

-- what is to be shown of each command and of what it changes
pub record Cases (m : Machine) (P : Command → Change → Type 0) : Type 0 where
  pub stays : (c : Command) → P c Stays
  pub creates : (v : List ℕ) (size : ℕ) (kind : Kind) → P (VolCreate v size kind) (Becomes v (empty_volume size kind))
  pub destroys : (v : List ℕ) → P (VolDestroy v) (Goes v)
  pub resizes : (v : List ℕ) (size : ℕ) (x : Volume) → fin.get m.volumes v ≡ Some x → P (VolResize v size) (Becomes v (record x { size = size }))
  pub guarantees : (v : List ℕ) (kind : Kind) (x : Volume) → fin.get m.volumes v ≡ Some x → P (VolGuarantee v kind) (Becomes v (record x { kind = kind }))
  pub news : (v f : List ℕ) (reserve : ℕ) (x : Volume) → fin.get m.volumes v ≡ Some x → P (New v f reserve) (Becomes v (stamped x (new x.active f reserve)))
  pub puts : (v f : List ℕ) (i : ℕ) (block : List ℕ) (x : Volume) → fin.get m.volumes v ≡ Some x → (n : ℕ) (file : File) → file_named x.active f ≡ Some (n, file) → P (Put v f i block) (Becomes v (stamped x (put x.active n file i block)))
  pub cuts : (v f : List ℕ) (length : ℕ) (x : Volume) → fin.get m.volumes v ≡ Some x → (n : ℕ) (file : File) → file_named x.active f ≡ Some (n, file) → P (Cut v f length) (Becomes v (stamped x (cut x.active n file length)))
  pub removes : (v f : List ℕ) (x : Volume) → fin.get m.volumes v ≡ Some x → (n : ℕ) (file : File) → file_named x.active f ≡ Some (n, file) → P (Remove v f) (Becomes v (stamped x (rm x.active n)))
  pub keeps : (v s : List ℕ) (x : Volume) → fin.get m.volumes v ≡ Some x → P (SnapCreate v s) (Becomes v (record x { snapshots = fin.insert x.snapshots s x.active }))
  pub forgets : (v s : List ℕ) (x : Volume) → fin.get m.volumes v ≡ Some x → P (SnapDelete v s) (Becomes v (record x { snapshots = fin.remove x.snapshots s }))
  pub restores : (v s : List ℕ) (x : Volume) → fin.get m.volumes v ≡ Some x → (t : Table) → fin.get x.snapshots s ≡ Some t → P (SnapRestore v s) (Becomes v (record x { active = t }))
  pub clones : (c v s : List ℕ) (size : ℕ) (kind : Kind) (x : Volume) → fin.get m.volumes v ≡ Some x → (t : Table) → fin.get x.snapshots s ≡ Some t → P (CloneCreate c v s size kind) (Becomes c (clone_of v x s t size kind))
  pub mirrors : (v s w : List ℕ) (size : ℕ) (kind : Kind) (x : Volume) → fin.get m.volumes v ≡ Some x → (t : Table) → fin.get x.snapshots s ≡ Some t → P (Mirror v s w size kind) (Becomes w (mirror_of x t size kind))
  pub splits : (c : List ℕ) (x : Volume) → fin.get m.volumes c ≡ Some x → P (SplitStart c) (Becomes c (record x { base = option_map being_split x.base; known = false }))
  pub ends : (c : List ℕ) (x : Volume) → fin.get m.volumes c ≡ Some x → P (SplitFinish c) (Becomes c (record x { base = None }))
  pub cleans : (v : List ℕ) (x : Volume) → fin.get m.volumes v ≡ Some x → P (Clean v) (Becomes v (record x { known = true }))

pub by_cases : (m : Machine) (P : Command → Change → Type 0) → Cases m P → (c : Command) → P c (change_of m c)
unfolding change_of
by_cases m P cases (VolCreate v size kind) = cases.creates v size kind
by_cases m P cases (VolDestroy v) = cases.destroys v
by_cases m P cases (VolResize v size) = volume_of m v (λ x. Becomes v (record x { size = size })) (P (VolResize v size)) (cases.stays (VolResize v size)) (λ x e. cases.resizes v size x e)
by_cases m P cases (VolGuarantee v kind) = volume_of m v (λ x. Becomes v (record x { kind = kind })) (P (VolGuarantee v kind)) (cases.stays (VolGuarantee v kind)) (λ x e. cases.guarantees v kind x e)
by_cases m P cases (New v f reserve) = volume_of m v (λ x. Becomes v (stamped x (new x.active f reserve))) (P (New v f reserve)) (cases.stays (New v f reserve)) (λ x e. cases.news v f reserve x e)
by_cases m P cases (Put v f i block) =
    volume_of m v (λ x. at_file x f (λ n file. Becomes v (stamped x (put x.active n file i block)))) (P (Put v f i block)) (cases.stays (Put v f i block)) (λ x e.
    file_of x f (λ n file. Becomes v (stamped x (put x.active n file i block))) (P (Put v f i block)) (cases.stays (Put v f i block)) (λ n file d. cases.puts v f i block x e n file d))
by_cases m P cases (Cut v f length) =
    volume_of m v (λ x. at_file x f (λ n file. Becomes v (stamped x (cut x.active n file length)))) (P (Cut v f length)) (cases.stays (Cut v f length)) (λ x e.
    file_of x f (λ n file. Becomes v (stamped x (cut x.active n file length))) (P (Cut v f length)) (cases.stays (Cut v f length)) (λ n file d. cases.cuts v f length x e n file d))
by_cases m P cases (Remove v f) =
    volume_of m v (λ x. at_file x f (λ n file. Becomes v (stamped x (rm x.active n)))) (P (Remove v f)) (cases.stays (Remove v f)) (λ x e.
    file_of x f (λ n file. Becomes v (stamped x (rm x.active n))) (P (Remove v f)) (cases.stays (Remove v f)) (λ n file d. cases.removes v f x e n file d))
by_cases m P cases (SnapCreate v s) = volume_of m v (λ x. Becomes v (record x { snapshots = fin.insert x.snapshots s x.active })) (P (SnapCreate v s)) (cases.stays (SnapCreate v s)) (λ x e. cases.keeps v s x e)
by_cases m P cases (SnapDelete v s) = volume_of m v (λ x. Becomes v (record x { snapshots = fin.remove x.snapshots s })) (P (SnapDelete v s)) (cases.stays (SnapDelete v s)) (λ x e. cases.forgets v s x e)
by_cases m P cases (SnapRestore v s) =
    volume_of m v (λ x. at_snapshot x s (λ t. Becomes v (record x { active = t }))) (P (SnapRestore v s)) (cases.stays (SnapRestore v s)) (λ x e.
    snapshot_of x s (λ t. Becomes v (record x { active = t })) (P (SnapRestore v s)) (cases.stays (SnapRestore v s)) (λ t d. cases.restores v s x e t d))
by_cases m P cases (CloneCreate c v s size kind) =
    volume_of m v (λ x. at_snapshot x s (λ t. Becomes c (clone_of v x s t size kind))) (P (CloneCreate c v s size kind)) (cases.stays (CloneCreate c v s size kind)) (λ x e.
    snapshot_of x s (λ t. Becomes c (clone_of v x s t size kind)) (P (CloneCreate c v s size kind)) (cases.stays (CloneCreate c v s size kind)) (λ t d. cases.clones c v s size kind x e t d))
by_cases m P cases (Mirror v s w size kind) =
    volume_of m v (λ x. at_snapshot x s (λ t. Becomes w (mirror_of x t size kind))) (P (Mirror v s w size kind)) (cases.stays (Mirror v s w size kind)) (λ x e.
    snapshot_of x s (λ t. Becomes w (mirror_of x t size kind)) (P (Mirror v s w size kind)) (cases.stays (Mirror v s w size kind)) (λ t d. cases.mirrors v s w size kind x e t d))
by_cases m P cases (SplitStart c) = volume_of m c (λ x. Becomes c (record x { base = option_map being_split x.base; known = false })) (P (SplitStart c)) (cases.stays (SplitStart c)) (λ x e. cases.splits c x e)
by_cases m P cases (SplitFinish c) = volume_of m c (λ x. Becomes c (record x { base = None })) (P (SplitFinish c)) (cases.stays (SplitFinish c)) (λ x e. cases.ends c x e)
by_cases m P cases (Clean v) = volume_of m v (λ x. Becomes v (record x { known = true })) (P (Clean v)) (cases.stays (Clean v)) (λ x e. cases.cleans v x e)
by_cases m P cases VolList = cases.stays VolList
by_cases m P cases (VolStat v) = cases.stays (VolStat v)
by_cases m P cases (Get v s f i) = cases.stays (Get v s f i)
by_cases m P cases (Len v s f) = cases.stays (Len v s f)
by_cases m P cases (Ls v s) = cases.stays (Ls v s)
by_cases m P cases (SnapList v) = cases.stays (SnapList v)
by_cases m P cases (Probe v f i) = cases.stays (Probe v f i)
by_cases m P cases (Work n) = cases.stays (Work n)
by_cases m P cases Cp = cases.stays Cp

-- a change is of this name alone
abbrev pub IsOf : Option (List ℕ) → Change → Type 0
IsOf name Stays = Unit {0}
IsOf name (Becomes n v) = name ≡ Some n
IsOf name (Goes n) = name ≡ Some n

pub at_home : (m : Machine) (c : Command) → IsOf (home c) (change_of m c)
at_home m c = by_cases m (λ c x. IsOf (home c) x) (record {
  stays = λ c. tt;
  creates = λ v size kind. refl;
  destroys = λ v. refl;
  resizes = λ v size x e. refl;
  guarantees = λ v kind x e. refl;
  news = λ v f reserve x e. refl;
  puts = λ v f i block x e n file d. refl;
  cuts = λ v f length x e n file d. refl;
  removes = λ v f x e n file d. refl;
  keeps = λ v s x e. refl;
  forgets = λ v s x e. refl;
  restores = λ v s x e t d. refl;
  clones = λ c v s size kind x e t d. refl;
  mirrors = λ v s w size kind x e t d. refl;
  splits = λ c x e. refl;
  ends = λ c x e. refl;
  cleans = λ v x e. refl;
}) c

-- every other name has what it had
pub elsewhere : (m : Machine) (x : Change) (home : Option (List ℕ)) (name : List ℕ) → IsOf home x → home ≢ Some name → IsSameAt name m (changed m x)
elsewhere m Stays home name of other = refl
elsewhere m (Becomes n v) home name of other =
    fin.get-insert name_total m.volumes n v name ∙ ap (λ (b : Bool). cond b (Some v) (fin.get m.volumes name)) (differs name n (λ e. other (of ∙ ap Some (sym e))))
elsewhere m (Goes n) home name of other =
    fin.get-remove name_total m.volumes n name ∙ ap (λ (b : Bool). cond b None (fin.get m.volumes name)) (differs name n (λ e. other (of ∙ ap Some (sym e))))

pub same_blocks : (m : Machine) (x : Change) → (changed m x).blocks ≡ m.blocks
same_blocks m Stays = refl
same_blocks m (Becomes n v) = refl
same_blocks m (Goes n) = refl

pub same_version : (m : Machine) (x : Change) → (changed m x).version ≡ m.version
same_version m Stays = refl
same_version m (Becomes n v) = refl
same_version m (Goes n) = refl

-- the machine after a command is the one before, or the command's effect
pub by_next : (m : Machine) (c : Command) (P : Machine → Type 0) → P m → (refusal m c ≡ None → P (effect m c)) → P (next m c)
by_next m c P stays goes =
    elim (refusal m c) as (λ o. refusal m c ≡ o → P (cond (is_some o) m (effect m c))) [ None ↦ goes | (Some r) ↦ λ e. stays ] refl

pub others_stay : (m : Machine) (c : Command) (name : List ℕ) → home c ≢ Some name → IsSameAt name m (next m c)
others_stay m c name other = by_next m c (IsSameAt name m) refl (λ e. elsewhere m (change_of m c) (home c) name (at_home m c) other)

pub blocks_stay : (m : Machine) (c : Command) → (next m c).blocks ≡ m.blocks
blocks_stay m c = by_next m c (λ n. n.blocks ≡ m.blocks) refl (λ e. same_blocks m (change_of m c))

pub version_stays : (m : Machine) (c : Command) → (next m c).version ≡ m.version
version_stays m c = by_next m c (λ n. n.version ≡ m.version) refl (λ e. same_version m (change_of m c))

along_lines : (P : Machine → Type 0) → ((m : Machine) (c : Command) → P m → P (next m c)) → (m : Machine) (lines : List Line) → P m → P (fold after_line m lines)
along_lines P step m [] is = is
along_lines P step m (Says c ∷ lines) is = along_lines P step (next m c) lines (step m c is)
along_lines P step m (NoCommand ∷ lines) is = along_lines P step m lines is
along_lines P step m (OutOfRange ∷ lines) is = along_lines P step m lines is

-- what each command keeps holds after the first lines of a script
pub along : (P : Machine → Type 0) → ((m : Machine) (c : Command) → P m → P (next m c)) → (m : Machine) (lines : List Line) (k : ℕ) → P m → P (after m lines k)
along P step m lines k is = along_lines P step m (take k lines) is
