-- A table in which a file was made.
use Rattle.std.proofs.Common.{◌≡◌, ◌≢◌, ℕ, ◌/◌, true, false, cond, nat_eq, Bool, List, refl, sym, ap, subst, ◌∙◌, arith, inr, ⊎_elim}
use Rattle.std.specs.Prelude.{Option, Some, None, is_some}
use Rattle.std.specs.Option.{option_map}
use Rattle.std.specs.FinMap as fin
use Rattle.std.proofs.lemmas.Bool.Decides.{nat_tests}
use Rattle.fv_codec.specs.declared.inode.InodeRecord.{InodeRecord}
use Rattle.fv_model.specs.Trees.{least_levels}
use Rattle.fv_model.specs.Tables.{new}
use Rattle.fv_tables.specs.Spelled.{Rooted, hole, stored}
use Rattle.fv_tables.specs.Told.{records_each, file_at, tree_or, tree_of, table_told}
use Rattle.fv_tree.specs.declared.kept.Tree.{Tree}
use Rattle.fv_tree.specs.Sources.{Shown}
use Rattle.fv_tree.specs.Standing.{standing, under, Shows}
use Rattle.fv_tree.specs.Flushing.{Stands, loaded}
use Rattle.fv_tree.specs.Leading.{LeadsNoMore}
use Rattle.fv_tree.specs.Readying.{KeepsReady}
use Rattle.fv_tree.specs.Beside.{unread, LeadsTo}
use Rattle.fv_tree.proofs.Beside.{loading_spares}
use Rattle.fv_tree.proofs.Seen.{empty_shown}
use Rattle.fv_inode.specs.declared.info.Info.{Info}
use Rattle.fv_inode.specs.declared.file.InodeFile.{InodeFile}
use Rattle.fv_inode.specs.Files.{rooted, new_record}
use Rattle.fv_inode.specs.Changing.{Makes}
use Rattle.fv_inode.proofs.Indexed.{rewritten_indexes}
use Rattle.fv_inode.proofs.Placed.{keeps_others}
use Rattle.fv_inode.proofs.Told.{created_told}
use Rattle.fv_files.specs.declared.files.Files.{Files}
use Rattle.fv_files.specs.Apart.{LeadsIn, IsAsSaid}
use Rattle.fv_files.specs.Tables.{table_in, tree_in, file_loaded, loaded_trees, AreStanding, IsLed, IsStored}
use Rattle.fv_files.proofs.Beside.{IsBare, loading_lets_go, loading_uses}
use Rattle.fv_files.proofs.Kept.{inode_led, inode_stands, inode_stored, records_leave}
use Rattle.fv_files.proofs.Whole.{not_some}
use Rattle.std.proofs.lemmas.Bool.{cases_eq}
use Rattle.fv_tree.specs.Altering.{Alters}
use Rattle.fv_files.specs.Altering.{AltersIn, AltersTrees, AreLaid, LeavesIn}
use Rattle.fv_files.proofs.Altered.{blank_alters, both_in, laid_by, leaves_both, leaves_of, still_changed}
use Rattle.fv_files.proofs.Changed.{kept_tree_is}

-- no tree is in memory where no file is
no_tree : (source : Shown) (f : Files) (n : ℕ) → file_at (rooted source f.inode) n ≡ None → AreStanding source f → (o : Option Tree) → tree_in f n ≡ o → o ≡ None
no_tree source f n none sound None e = refl
no_tree source f n none sound (Some t) e = absurd (no_record (file_at (rooted source f.inode) n) none (sound.owners n t e).1)
  where
    no_record : (o : Option InodeRecord) → o ≡ None → is_some o ≡ true → ⊥
    no_record o none some = let wrong : is_some o ≡ false = ap is_some none in let both : true ≡ false = sym some ∙ wrong in cc

module _ (old now : Shown) (f : Files) (i : InodeFile) (name : List ℕ) (reserve s : ℕ) (info : Info) (held : now.held ≡ old.held) (makes : Makes (rooted old f.inode) (rooted now i) name reserve s info) (sound : AreStanding old f) where
  abbrev n : ℕ
  n = info.number

  abbrev g : Files
  g = record { inode = i; trees = f.trees; alloc = f.alloc }

  none : tree_in f n ≡ None
  none = no_tree old f n makes.number.free sound (tree_in f n) refl

  -- the tree of the new file
  own_is : tree_of (table_in now g) n (new_record name reserve) ≡ stored (under now) n (least_levels reserve) hole
  own_is = ap (λ o. tree_or (option_map (standing (under now)) o) (stored (under now) n (least_levels reserve) hole)) none

  empty : Shows (tree_of (table_in now g) n (new_record name reserve)) (record { levels = least_levels reserve; stamps = fin.empty }) fin.empty
  empty = empty_shown (tree_of (table_in now g) n (new_record name reserve)) (least_levels reserve) (ap (λ (t : Rooted). t.levels) (sym own_is)) (ap (λ (t : Rooted). t.root.stamp) own_is)

  trees_same : (k : ℕ) → option_map (standing (under now)) (tree_in g k) ≡ option_map (standing (under old)) (tree_in f k)
  trees_same k = λ j. option_map (standing (λ v. fin.get (held j) v)) (tree_in f k)

  pub made_table : table_told (table_in now g) ≡ new (table_told (table_in old f)) name reserve s
  made_table = created_told (table_in old f) (table_in now g) name reserve s info makes (keeps_others (table_in old f) (table_in now g) n (λ j v. fin.get (held j) v) (λ k differs. trees_same k)) empty

  others : (k : ℕ) → k ≢ n → file_at (rooted now i) k ≡ file_at (rooted old f.inode) k
  others k differs = makes.rewrites.files k ∙ (let test : nat_eq k n ≡ false = grind (arith, nat_tests, differs) in ap (λ b. cond b (Some (new_record name reserve)) (file_at (rooted old f.inode) k)) test)

  own : file_at (rooted now i) n ≡ Some (new_record name reserve)
  own = makes.rewrites.files n ∙ (let test : nat_eq n n ≡ true = grind (arith, nat_tests) in ap (λ b. cond b (Some (new_record name reserve)) (file_at (rooted old f.inode) n)) test)

  -- its tree leads nowhere
  bare : IsBare (loaded_trees (under now) g (Some n))
  bare =
      let is : loaded_trees (under now) g (Some n) ≡ Some (unread (stored (under now) n (least_levels reserve) hole)) = (λ j. option_map (λ r. file_loaded (under now) n r (none j)) (own j)) in
      subst IsBare (sym is) (stored (under now) n (least_levels reserve) hole, refl, refl, λ level place. refl, λ index. refl)

  pub made_sound : now.used ≡ old.used → i.tree.owner ≡ f.inode.tree.owner → Stands now i.tree → LeadsNoMore (loaded old f.inode.tree) (loaded now i.tree) → KeepsReady f.inode.tree i.tree → AreStanding now g
  made_sound used owner inode no_more keeps_ready = inode_stands old now f g n (λ k differs. refl) others sound
      (loading_spares old now (LeadsTo (loaded old f.inode.tree)) (LeadsTo (loaded now i.tree)) held used (λ v led. record { level = led.level; place = led.place; leads = no_more led.level led.place v led.leads }))
      (inr bare) owner inode (λ t at. absurd (not_some (tree_in f n) t none at)) (λ k there. keeps_ready (k / records_each) (sound.ready k there))

  pub made_stored : now.used ≡ old.used → (known : Bool) → IsAsSaid known (loaded now i.tree) → LeadsNoMore (loaded old f.inode.tree) (loaded now i.tree) → IsStored known old f → IsStored known now g
  made_stored used known well no_more = inode_stored old now f g n (λ k differs. refl) others sound
      (loading_spares old now (LeadsTo (loaded old f.inode.tree)) (LeadsTo (loaded now i.tree)) held used (λ v led. record { level = led.level; place = led.place; leads = no_more led.level led.place v led.leads }))
      (inr bare) known well (rewritten_indexes (rooted old f.inode) (rooted now i) n s _ makes.rewrites)

  -- what is in use is led to
  pub made_led : now.used ≡ old.used → LeadsNoMore (loaded old f.inode.tree) (loaded now i.tree) → LeadsNoMore (loaded now i.tree) (loaded old f.inode.tree) → IsLed old f → IsLed now g
  made_led used no_more keeps = inode_led old now f g n (λ k differs. refl) others sound
      (loading_spares old now (LeadsTo (loaded old f.inode.tree)) (LeadsTo (loaded now i.tree)) held used (λ v led. record { level = led.level; place = led.place; leads = no_more led.level led.place v led.leads }))
      (inr (λ v led. subst (λ o. LeadsIn o v) no_file led))
      (loading_lets_go now (LeadsTo (loaded old f.inode.tree)) (LeadsTo (loaded now i.tree)) (λ v led. record { level = led.level; place = led.place; leads = keeps led.level led.place v led.leads }))
      (loading_uses old now (LeadsTo (loaded old f.inode.tree)) (LeadsTo (loaded now i.tree)) used)
    where
      no_file : loaded_trees (under old) f (Some n) ≡ None
      no_file = ap (option_map (λ r. file_loaded (under old) n r (tree_in f n))) makes.number.free

  others_leave : now.used ≡ old.used → LeadsNoMore (loaded old f.inode.tree) (loaded now i.tree) → (k : ℕ) → k ≢ n → LeavesIn (loaded_trees (under old) f (Some k)) (loaded_trees (under now) g (Some k))
  others_leave used no_more = records_leave old now f g n (λ k differs. refl) others sound
      (loading_spares old now (LeadsTo (loaded old f.inode.tree)) (LeadsTo (loaded now i.tree)) held used (λ v led. record { level = led.level; place = led.place; leads = no_more led.level led.place v led.leads }))

  -- The places of the inode file got the stamp, or are as before; the new tree has none, and nothing of the others changed.
  pub made_alters : now.used ≡ old.used → LeadsNoMore (loaded old f.inode.tree) (loaded now i.tree) → Alters s (loaded old f.inode.tree) (loaded now i.tree) → AltersTrees s (loaded_trees (under old) f) (loaded_trees (under now) g)
  made_alters used no_more inode None = inode
  made_alters used no_more inode (Some k) = ⊎_elim
      (λ (same : k ≡ n).
      let is : loaded_trees (under now) g (Some n) ≡ Some (unread (stored (under now) n (least_levels reserve) hole)) = (λ j. option_map (λ r. file_loaded (under now) n r (none j)) (own j)) in
      subst (λ m. AltersIn s (loaded_trees (under old) f (Some m)) (loaded_trees (under now) g (Some m))) (sym same)
      (subst (AltersIn s (loaded_trees (under old) f (Some n))) (sym is) (blank_alters s (loaded_trees (under old) f (Some n)) (stored (under now) n (least_levels reserve) hole) refl)))
      (λ (differs : k ≢ n). both_in s (loaded_trees (under old) f (Some k)) (loaded_trees (under now) g (Some k)) (leaves_both s (loaded_trees (under old) f (Some k)) (loaded_trees (under now) g (Some k)) (others_leave used no_more k differs)))
      (cases_eq k n)

  pub made_laid : now.used ≡ old.used → LeadsNoMore (loaded old f.inode.tree) (loaded now i.tree) → Alters s (loaded old f.inode.tree) (loaded now i.tree) → AreLaid (under old) f → AreLaid (under now) g
  made_laid used no_more inode laid = laid_by (under old) (under now) f g laid (λ k u q is at. ⊎_elim
      (λ (same : k ≡ n). absurd (not_some (tree_in f n) u none (ap (tree_in f) (sym same) ∙ is)))
      (λ (differs : k ≢ n).
      let file = sym (others k differs) ∙ at in
      inr (record {
        tree = u;
        was = is;
        file = file;
        leaves = leaves_of (loaded_trees (under old) f (Some k)) (loaded_trees (under now) g (Some k)) (loaded old u) (loaded now u) (kept_tree_is (under old) f k u q is file) (kept_tree_is (under now) g k u q is at) (others_leave used no_more k differs);
        cell = still_changed s (under old) (under now) f.inode.tree i.tree k q inode at;
      }))
      (cases_eq k n))
