-- A tree of which each block was copied without places stands on the copies, and each pointer of it is unknown.
use Rattle.std.proofs.Common.{◌≡◌, ◌≢◌, ℕ, zero, suc, ◌+◌, ◌/◌, ◌%◌, ◌<◌, ◌≤◌, Bool, true, false, List, [], ◌∷◌, inl, refl, sym, ap, subst, ◌∙◌, arith, ⊎_elim, get_or}
use Rattle.std.specs.Prelude.{Option, Some, None, Ok, ◌==◌, if◌then◌else◌, is_some, map}
use Rattle.std.proofs.lemmas.Bool.{cases_lt}
use Rattle.std.proofs.lemmas.Bool.Decides.{nat_tests}
use Rattle.std.proofs.lemmas.Option.{same_Some}
use Rattle.fv_codec.specs.declared.form.Form.{Form}
use Rattle.fv_codec.specs.declared.form.Form.TheVariants.{Node as OfNode, Inodes as OfInodes}
use Rattle.fv_codec.specs.declared.inode.InodeBlock.{InodeBlock}
use Rattle.fv_codec.specs.declared.node.Node.{Node}
use Rattle.fv_codec.specs.declared.pointer.Pointer.{Pointer}
use Rattle.fv_codec.specs.Blocks.{node_at, inodes_at}
use Rattle.fv_model.specs.Trees.{fan}
use Rattle.fv_tables.specs.Alike.{hintless, HasAlikeNodes, SaysAlike}
use Rattle.fv_tables.specs.Spelled.{Under, Rooted as Tree, hole, stored, pointers_in, pointers_at, pointer_at}
use Rattle.fv_tables.specs.Told.{free_record, records_in}
use Rattle.fv_tables.proofs.AlikeTables.{alike_pointer}
use Rattle.fv_image.proofs.WellTrees.{in_node}
use Rattle.fv_tree.specs.Beside.{unread, LeadsTo}
use Rattle.fv_tree.specs.Flushing.{kind_for, HasKind, IsNodeOf, IsRight, Leads, ReachesOnce}
use Rattle.fv_tree.specs.Sources.{Use}
use Rattle.fv_inode.specs.Files.{IsInodesOf}
use Rattle.fv_files.specs.Apart.{IsAsSaid}
use Rattle.fv_places.specs.ByKind.{form_of, shape_in, pointers_by}
use Rattle.fv_places.specs.Changed.{Blanks, hintless_inodes, hintless_node}
use Rattle.fv_places.proofs.Alikes.{blank_says}
use Rattle.fv_places.proofs.Descents.{over_stands, top_is, within}
use Rattle.fv_places.proofs.Fitting.{root_got}
use Rattle.fv_places.proofs.Holding.{blank_inside}
use Rattle.fv_places.proofs.Positions.{read_inodes, read_node}

-- The block under a number, in use with a kind, has the shape of that kind, and under the number there is a copy of it without places, in use with
-- the same kind.
pub record IsCopied (m n : Under) (old uses : ℕ → Option Use) (v : ℕ) : Type 0 where
  pub kind : ℕ
  pub from : List ℕ
  pub copy : List ℕ
  pub there : m v ≡ Some from
  pub here : n v ≡ Some copy
  pub was : HasKind kind (old v)
  pub now : HasKind kind (uses v)
  pub shaped : shape_in (form_of kind) from ≡ Ok tt
  pub blank : Blanks (form_of kind) from copy

-- ---- what is in use

pub right_kind : (kind : ℕ) (p : Pointer) (o : Option Use) → IsRight kind p o → HasKind kind o
right_kind kind p None is = is
right_kind kind p (Some x) is = is.1

pub one_kind : (a b : ℕ) (o : Option Use) → HasKind a o → HasKind b o → a ≡ b
one_kind a b None first second = absurd first
one_kind a b (Some x) first second = sym first ∙ second

-- an unknown pointer is right
blank_right : (kind : ℕ) (p : Pointer) (o : Option Use) → p.pvbn ≡ 0 → HasKind kind o → IsRight kind p o
blank_right kind p None none is = is
blank_right kind p (Some x) none is = (inl none, is)

-- ---- a copy

got_blank : (ps : List Pointer) (i : ℕ) → (get_or (map hintless ps) i hole).pvbn ≡ 0
got_blank [] zero = refl
got_blank [] (suc i) = refl
got_blank (p ∷ ps) zero = refl
got_blank (p ∷ ps) (suc i) = got_blank ps i

module _ (m n : Under) (old uses : ℕ → Option Use) (v : ℕ) (c : IsCopied m n old uses v) where
  pub says : SaysAlike c.kind c.from c.copy
  says = blank_says c.kind c.from c.copy c.shaped c.blank

  -- the copy of a node
  module _ (form : form_of c.kind ≡ Some OfNode) where
    node_shaped : shape_in (Some OfNode) c.from ≡ Ok tt
    node_shaped = subst (λ (f : Option Form). shape_in f c.from ≡ Ok tt) form c.shaped

    node_blank : Blanks (Some OfNode) c.from c.copy
    node_blank = subst (λ (f : Option Form). Blanks f c.from c.copy) form c.blank

    -- has no place,
    pub node_zero : (i : ℕ) → (get_or (pointers_in (n v)) i hole).pvbn ≡ 0
    node_zero i =
        ap (λ (o : Option (List ℕ)). (get_or (pointers_in o) i hole).pvbn) c.here
        ∙ ap (λ (ps : List Pointer). (get_or ps i hole).pvbn) (blank_inside (Some OfNode) c.from c.copy node_shaped node_blank)
        ∙ got_blank (pointers_by (Some OfNode) c.from) i

    -- and names the position that the node does.
    pub names_again : (owner level place : ℕ) → IsNodeOf owner level place (m v) → IsNodeOf owner level place (n v)
    names_again owner level place is =
        let same : c.from ≡ is.block = same_Some c.from is.block (sym c.there ∙ is.lies) in
        record {
          block = c.copy;
          lies = c.here;
          children = map hintless is.children;
          spells = read_node c.from (λ (x : Node). node_at c.copy ≡ Ok (hintless_node x)) (record { level = level; owner = owner; place = place; children = is.children }) node_blank (ap node_at same ∙ is.spells);
        }

  -- the copy of an inode block
  module _ (five : c.kind ≡ 5) where
    inodes_shaped : shape_in (Some OfInodes) c.from ≡ Ok tt
    inodes_shaped = subst (λ (f : Option Form). shape_in f c.from ≡ Ok tt) (ap form_of five) c.shaped

    inodes_blank : Blanks (Some OfInodes) c.from c.copy
    inodes_blank = subst (λ (f : Option Form). Blanks f c.from c.copy) (ap form_of five) c.blank

    -- has no place,
    pub root_zero : (i : ℕ) → (get_or (records_in (n v)) i free_record).root.pvbn ≡ 0
    root_zero i =
        ap (λ (o : Option (List ℕ)). (get_or (records_in o) i free_record).root.pvbn) c.here
        ∙ ap (λ (p : Pointer). p.pvbn) (root_got (records_in (Some c.copy)) i)
        ∙ ap (λ (ps : List Pointer). (get_or ps i hole).pvbn) (blank_inside (Some OfInodes) c.from c.copy inodes_shaped inodes_blank)
        ∙ got_blank (pointers_by (Some OfInodes) c.from) i

    -- and names the index that the block does.
    pub indexed_again : (index : ℕ) (block other : List ℕ) → m v ≡ Some block → IsInodesOf index block → n v ≡ Some other → IsInodesOf index other
    indexed_again index block other there is here =
        let same : c.from ≡ block = same_Some c.from block (sym c.there ∙ there) in
        subst (IsInodesOf index) (same_Some c.copy other (sym c.here ∙ here)) (record {
          files = (hintless_inodes (record { index = index; files = is.files })).files;
          spells = read_inodes c.from (λ (x : InodeBlock). inodes_at c.copy ≡ Ok (hintless_inodes x)) (record { index = index; files = is.files }) inodes_blank (ap inodes_at same ∙ is.spells);
        })

-- ---- a tree

module _ (m n : Under) (old uses : ℕ → Option Use) (owner levels : ℕ) (root new : Pointer) (top : hintless new ≡ hintless root) (start : new.pvbn ≡ 0)
    (copied : (level place : ℕ) → (pointer_at (stored m owner levels root) level place).stamp ≢ 0 → IsCopied m n old uses (pointer_at (stored m owner levels root) level place).vvbn)
    (kinds : (level place : ℕ) (some : (pointer_at (stored m owner levels root) level place).stamp ≢ 0) → (copied level place some).kind ≡ kind_for owner level)
    (forms : (level : ℕ) → 1 ≤ level → level ≤ levels → form_of (kind_for owner level) ≡ Some OfNode) where
  abbrev t : Tree
  t = stored m owner levels root

  abbrev u : Tree
  u = stored n owner levels new

  -- a node of the tree is one by its kind
  form_at : (level place : ℕ) → 1 ≤ level → (some : (pointer_at t level place).stamp ≢ 0) → form_of (copied level place some).kind ≡ Some OfNode
  form_at level place low some = ap form_of (kinds level place some) ∙ forms level low (within t level place some)

  not_leaf : (kind : ℕ) → form_of kind ≡ Some OfNode → (kind ≢ 1) × (kind ≢ 5)
  not_leaf kind form = (λ e. one (ap form_of (sym e) ∙ form), λ e. five (ap form_of (sym e) ∙ form))
    where
      one : ◌≡◌ {A = Option Form} None (Some OfNode) → ⊥
      one e = cc

      five : ◌≡◌ {A = Option Form} (Some OfInodes) (Some OfNode) → ⊥
      five e = cc

  -- Its nodes stand alike in the copies.
  pub alike_nodes : HasAlikeNodes t n
  alike_nodes level place low some =
      let v = (pointer_at t level place).vvbn in
      let c = copied level place some in
      let kind = not_leaf c.kind (form_at level place low some) in
      (λ i. map hintless (pointers_in (c.here i))) ∙ (says m n old uses v c).nodes kind.0 kind.1 ∙ (λ i. map hintless (pointers_in (sym c.there i)))

  pub same_pointer : (level place : ℕ) → hintless (pointer_at u level place) ≡ hintless (pointer_at t level place)
  same_pointer = alike_pointer m n owner levels root new top alike_nodes

  pub same_vvbn : (level place : ℕ) → (pointer_at u level place).vvbn ≡ (pointer_at t level place).vvbn
  same_vvbn level place = ap (λ (p : Pointer). p.vvbn) (same_pointer level place)

  pub stood : (level place : ℕ) → (pointer_at u level place).stamp ≢ 0 → (pointer_at t level place).stamp ≢ 0
  stood level place some e = some (ap (λ (p : Pointer). p.stamp) (same_pointer level place) ∙ e)

  -- Each pointer of it is unknown.
  pub all_zero : (level place : ℕ) → (pointer_at u level place).stamp ≢ 0 → (pointer_at u level place).pvbn ≡ 0
  unfolding pointers_at
  all_zero level place some = ⊎_elim
      (λ (low : level < levels).
      let p : Pointer = pointer_at u (level + 1) (place / fan) in
      let there : p.stamp ≢ 0 = over_stands u level place low some in
      let test : (p.stamp == 0) ≡ false = grind (arith, nat_tests) in
      let was = stood (level + 1) (place / fan) there in
      let v = (pointer_at t (level + 1) (place / fan)).vvbn in
      ap (λ (q : Pointer). q.pvbn) (in_node u level place low)
      ∙ ap (λ (b : Bool). (get_or (if b then [] else pointers_in (n p.vvbn)) (place % fan) hole).pvbn) test
      ∙ ap (λ (w : ℕ). (get_or (pointers_in (n w)) (place % fan) hole).pvbn) (same_vvbn (level + 1) (place / fan))
      ∙ node_zero m n old uses v (copied (level + 1) (place / fan) was) (form_at (level + 1) (place / fan) (omega arith) was) (place % fan))
      (λ (high : levels ≤ level). ap (λ (q : Pointer). q.pvbn) (top_is u level place high some) ∙ start)
      (cases_lt level levels)

  -- It stands on the copies,
  pub reached_again : ReachesOnce old t → ReachesOnce uses u
  reached_again is = record {
    once = λ level place k q one two same. is.once level place k q (stood level place one) (stood k q two) (sym (same_vvbn level place) ∙ same ∙ same_vvbn k q);
    held = λ level place some. ap (λ (v : ℕ). is_some (n v)) (same_vvbn level place) ∙ ap is_some (copied level place (stood level place some)).here;
    used = λ level place some.
        let c = copied level place (stood level place some) in
        blank_right (kind_for owner level) (pointer_at u level place) (uses (pointer_at u level place).vvbn) (all_zero level place some)
        (subst (λ (v : ℕ). HasKind (kind_for owner level) (uses v)) (sym (same_vvbn level place)) (subst (λ (k : ℕ). HasKind k (uses (pointer_at t level place).vvbn)) (kinds level place (stood level place some)) c.now));
  }

  -- leads where it led,
  pub leads_as : (v : ℕ) → LeadsTo (unread u) v → LeadsTo (unread t) v
  leads_as v is = record { level = is.level; place = is.place; leads = record { some = stood is.level is.place is.leads.some; placed = refl; vvbn = sym (same_vvbn is.level is.place) ∙ is.leads.vvbn } }

  -- and what it leads to is as its pointers say.
  pub said_again : (known : Bool) → IsAsSaid known (unread t) → IsAsSaid false (unread u)
  said_again known is = record {
    positions = λ level place v low leads.
        let was = stood level place leads.some in
        let w = (pointer_at t level place).vvbn in
        let own : Leads (unread t) level place w = record { some = was; placed = refl; vvbn = refl } in
        let named = names_again m n old uses w (copied level place was) (form_at level place low was) owner level place (is.positions level place w low own) in
        subst (λ (x : ℕ). IsNodeOf owner level place (n x)) (sym (same_vvbn level place) ∙ leads.vvbn) named;
    leads = record {
      nodes = λ level place some none low still. all_zero (level + 1) (place / fan) (over_stands u level place low some);
      roots = λ place block some still at unknown. all_zero 0 place some;
    };
    places = λ all. absurd (wrong all);
  }
    where
      wrong : false ≡ true → ⊥
      wrong e = cc
