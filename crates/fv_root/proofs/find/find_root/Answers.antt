use Rattle.std.proofs.Common.{◌≡◌, ◌∙◌, ap, sym, subst, Ok, Err}
use Rattle.std.specs.Prelude.{IsTrue}
use Rattle.std.specs.Option.{option_map}
use Rattle.std.proofs.lemmas.Result.{err_from_is_err_and}
use Rattle.fv_image.specs.NewerRoot.{behind}
use Rattle.fv_root.specs.Finding.{ReadsBehind}
use Rattle.fv_root.proofs.Finding.{second_fault, found_so}
use Rattle.fv_root.proofs.find.find_root.Goals as goal

pub returns-in_err-second-clause-finds : goal.returns-in_err-second-clause-finds
returns-in_err-second-clause-finds g c = λ tells.
    let s1 = c.in_ok-blocks.ensures.only_reads.stays in
    let s2 = c.in_ok-first.ensures.only_reads.stays in
    let told1 : IsTrue (g.D.Disk.shown c.read_super.new.disk).tells = rw s1.tells tells in
    let told2 : IsTrue (g.D.Disk.shown c.read_root.new.disk).tells = rw s2.tells told1 in
    let one : behind (g.D.Disk.shown c.args.disk.now).reads 0 ≡ option_map Ok c.in_ok-first.first = ap (λ i. behind i 0) (sym s1.reads) ∙ c.in_ok-first.ensures.value told1 in
    let two : ReadsBehind (g.D.Disk.shown c.args.disk.now).reads 1 (Err c.in_err-second.field-0.0) = subst (λ i. ReadsBehind i 1 (Err c.in_err-second.field-0.0)) (s2.reads ∙ s1.reads) (c.in_err-second.ensures.value told2) in
    let p = err_from_is_err_and c.from_residual-in_err-second.result c.from_residual-in_err-second.ensures.1 in
    rw (p.1, p.2) (second_fault (g.D.Disk.shown c.args.disk.now).reads c.in_ok-blocks.blocks c.in_ok-first.first c.in_err-second.field-0.0 (c.in_ok-blocks.ensures.value tells) one two)

pub returns-clause-finds : goal.returns-clause-finds
returns-clause-finds g c = λ tells.
    let s1 = c.in_ok-blocks.ensures.only_reads.stays in
    let s2 = c.in_ok-first.ensures.only_reads.stays in
    let told1 : IsTrue (g.D.Disk.shown c.read_super.new.disk).tells = rw s1.tells tells in
    let told2 : IsTrue (g.D.Disk.shown c.read_root.new.disk).tells = rw s2.tells told1 in
    let one : behind (g.D.Disk.shown c.args.disk.now).reads 0 ≡ option_map Ok c.in_ok-first.first = ap (λ i. behind i 0) (sym s1.reads) ∙ c.in_ok-first.ensures.value told1 in
    let two : behind (g.D.Disk.shown c.args.disk.now).reads 1 ≡ option_map Ok c.in_ok-second.second = ap (λ i. behind i 1) (sym s1.reads) ∙ (ap (λ i. behind i 1) (sym s2.reads) ∙ c.in_ok-second.ensures.value told2) in
    rw c.ok_or.ensures.value (found_so (g.D.Disk.shown c.args.disk.now).reads c.in_ok-blocks.blocks c.in_ok-first.first c.in_ok-second.second c.newer.result (c.in_ok-blocks.ensures.value tells) one two c.newer.ensures.chosen c.newer.ensures.older)
