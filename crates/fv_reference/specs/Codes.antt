-- The definitions' records as tuples of their fields, by which a proof tells them apart.
use Rattle.std.specs.Prelude.{ℕ, Bool, List, Option, refl}
use Rattle.std.specs.Coded.{Coded, code_by, coded×, coded_ℕ, coded_bool, coded_list, coded_option}
use Rattle.std.specs.Ordering.{nat_cmp}
use Rattle.std.specs.FinMap as fin
use Rattle.fv_model.specs.Trees.{Tree, spot_cmp}
use Rattle.fv_model.specs.declared.commands.Kind.{Kind}
use Rattle.fv_model.specs.contracts.commands.Kind as kind
use Rattle.fv_model.specs.Spelling.{name_cmp}
use Rattle.fv_model.specs.Tables.{File, Table}
use Rattle.fv_model.specs.Volumes.{Base, Volume}
use Rattle.fv_model.specs.Machines.{Machine}

abbrev pub tree_code : Coded Tree
tree_code =
    code_by (ℕ × fin.FinMap spot_cmp ℕ) (coded× coded_ℕ (fin.code (coded× coded_ℕ coded_ℕ) coded_ℕ)) (λ t. (t.levels, t.stamps)) (λ p. record { levels = p.0; stamps = p.1 }) (λ _. refl)

abbrev pub file_code : Coded File
file_code =
    code_by (List ℕ × (ℕ × (ℕ × (fin.FinMap nat_cmp (List ℕ) × Tree)))) (coded× (coded_list coded_ℕ) (coded× coded_ℕ (coded× coded_ℕ (coded× (fin.code coded_ℕ (coded_list coded_ℕ)) tree_code)))) (λ f. (f.name, (f.length, (f.reserve, (f.blocks, f.tree))))) (λ p. record { name = p.0; length = p.1.0; reserve = p.1.1.0; blocks = p.1.1.1.0; tree = p.1.1.1.1 }) (λ _. refl)

abbrev pub table_code : Coded Table
table_code =
    code_by (fin.FinMap nat_cmp File × Tree) (coded× (fin.code coded_ℕ file_code) tree_code) (λ t. (t.files, t.inode)) (λ p. record { files = p.0; inode = p.1 }) (λ _. refl)

abbrev pub base_code : Coded Base
base_code =
    code_by (List ℕ × (List ℕ × (Table × Bool))) (coded× (coded_list coded_ℕ) (coded× (coded_list coded_ℕ) (coded× table_code coded_bool))) (λ b. (b.parent, (b.snapshot, (b.table, b.splitting)))) (λ p. record { parent = p.0; snapshot = p.1.0; table = p.1.1.0; splitting = p.1.1.1 }) (λ _. refl)

abbrev pub volume_code : Coded Volume
volume_code =
    code_by (Kind × (ℕ × (ℕ × (ℕ × (ℕ × (Table × (fin.FinMap name_cmp Table × (Option Base × Bool)))))))) (coded× kind.the_row.coded (coded× coded_ℕ (coded× coded_ℕ (coded× coded_ℕ (coded× coded_ℕ (coded× table_code (coded× (fin.code (coded_list coded_ℕ) table_code) (coded× (coded_option base_code) coded_bool)))))))) (λ v. (v.kind, (v.size, (v.most, (v.span, (v.now, (v.active, (v.snapshots, (v.base, v.known))))))))) (λ p. record { kind = p.0; size = p.1.0; most = p.1.1.0; span = p.1.1.1.0; now = p.1.1.1.1.0; active = p.1.1.1.1.1.0; snapshots = p.1.1.1.1.1.1.0; base = p.1.1.1.1.1.1.1.0; known = p.1.1.1.1.1.1.1.1 }) (λ _. refl)

abbrev pub machine_code : Coded Machine
machine_code =
    code_by (ℕ × (ℕ × fin.FinMap name_cmp Volume)) (coded× coded_ℕ (coded× coded_ℕ (fin.code (coded_list coded_ℕ) volume_code))) (λ m. (m.blocks, (m.version, m.volumes))) (λ p. record { blocks = p.0; version = p.1.0; volumes = p.1.1 }) (λ _. refl)
