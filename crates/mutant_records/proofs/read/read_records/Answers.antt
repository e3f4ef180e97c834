use Rattle.std.proofs.Common.{Result, Ok, Err, ◌+◌, length, ◌∙◌, sym, subst, arith}
use Rattle.csv.specs.Records.{fields_of}
use Rattle.mutant_records.specs.Lists.{RecordGives}
use Rattle.mutant_records.specs.declared.error.MutantError.{MutantError}
use Rattle.mutant_records.specs.declared.list.ListForm.{ListForm}
use Rattle.mutant_records.specs.declared.list.Made.{Made}
use Rattle.mutant_records.proofs.Order.{order-counted}
use Rattle.mutant_records.proofs.Reading.{read_all, read_fault, read_more, record_follows}
use Rattle.mutant_records.proofs.Short.{short_here, short_next}
use Rattle.mutant_records.proofs.read.read_records.Goals as goal

pub returns-then-not-branch : goal.returns-then-not-branch
returns-then-not-branch g c text header records gave rows =
    rw c.into_all.ensures (read_all c.args.code.now (g.C.Replaces.Reads (g.C.Replaces.subject c.args.checker.now)) c.args.form c.args.reader.now c.each.reader
    c.each.so_far.all c.each.number c.each.invariant.so_far (c.in_ok-next_record.ensures.all c.if-not-branch.true) text header records gave rows)

pub read_record-requires-clause-next : goal.read_record-requires-clause-next
read_record-requires-clause-next g c =
    let counted = order-counted c.each.so_far.all c.each.invariant.keeps.order in
    omega (arith, c.each.invariant.keeps.mutant, counted.short, c.each.invariant.so_far.count)

pub read_record-requires-clause-short : goal.read_record-requires-clause-short
read_record-requires-clause-short g c i =
    short_here c.each.reader c.next_record.new.reader _ i c.each.invariant.so_far.short (c.in_ok-next_record.ensures.more c.if-not-branch.false)

pub returns-in-Err : goal.returns-in-Err
returns-in-Err g c =
    let fields = fields_of c.next_record.new.row in
    let given = subst (λ (r : Result Made MutantError). RecordGives c.args.code.now (g.C.Replaces.Reads (g.C.Replaces.subject c.each.checker)) c.each.so_far.form
    c.each.so_far.all c.each.number fields r) c.in-Err.is c.in_ok-fault.ensures.value in
    let formed = subst (λ (f : ListForm). RecordGives c.args.code.now (g.C.Replaces.Reads (g.C.Replaces.subject c.each.checker)) f
    c.each.so_far.all c.each.number fields (Err c.in-Err.fault)) c.each.invariant.form given in
    read_fault c.args.code.now (g.C.Replaces.Reads (g.C.Replaces.subject c.args.checker.now)) c.args.form c.args.reader.now c.each.reader c.next_record.new.reader
    c.each.so_far.all c.each.number fields c.in-Err.fault c.each.invariant.so_far (c.in_ok-next_record.ensures.more c.if-not-branch.false)
    (subst (λ s. RecordGives c.args.code.now (g.C.Replaces.Reads s) c.args.form c.each.so_far.all c.each.number fields (Err c.in-Err.fault))
    c.each.invariant.kept formed)

pub push-requires-clause-follows : goal.push-requires-clause-follows
push-requires-clause-follows g c =
    let counted = order-counted c.each.so_far.all c.each.invariant.keeps.order in
    let fields = fields_of c.next_record.new.row in
    let Reads = g.C.Replaces.Reads (g.C.Replaces.subject c.each.checker) in
    let given = subst (λ (r : Result Made MutantError). RecordGives c.args.code.now Reads c.each.so_far.form c.each.so_far.all c.each.number fields r)
    c.in-Ok.is c.in_ok-fault.ensures.value in
    record_follows c.args.code.now Reads c.each.so_far.form c.each.so_far.all fields c.in-Ok.made
    (subst (λ n. RecordGives c.args.code.now Reads c.each.so_far.form c.each.so_far.all n fields (Ok c.in-Ok.made)) (sym c.each.invariant.so_far.count) given)
    counted

pub each-preserved : goal.each-preserved
each-preserved g c =
    let fields = fields_of c.next_record.new.row in
    let goes = c.in_ok-next_record.ensures.more c.if-not-branch.false in
    let given = subst (λ (r : Result Made MutantError). RecordGives c.args.code.now (g.C.Replaces.Reads (g.C.Replaces.subject c.each.checker)) c.each.so_far.form
    c.each.so_far.all c.each.number fields r) c.in-Ok.is c.in_ok-fault.ensures.value in
    let formed = subst (λ (f : ListForm). RecordGives c.args.code.now (g.C.Replaces.Reads (g.C.Replaces.subject c.each.checker)) f
    c.each.so_far.all c.each.number fields (Ok c.in-Ok.made)) c.each.invariant.form given in
    record {
      so_far = read_more c.args.code.now (g.C.Replaces.Reads (g.C.Replaces.subject c.args.checker.now)) c.args.form c.args.reader.now c.each.reader
          c.next_record.new.reader c.each.so_far.all c.push.new.self.all c.each.number fields c.in-Ok.made c.each.invariant.so_far goes
          (short_next c.each.reader c.next_record.new.reader fields c.each.invariant.so_far.short goes)
          (subst (λ s. RecordGives c.args.code.now (g.C.Replaces.Reads s) c.args.form c.each.so_far.all c.each.number fields (Ok c.in-Ok.made))
          c.each.invariant.kept formed) c.in_ok-push-in-Ok.ensures.all;
      keeps = c.in_ok-push-in-Ok.ensures.keeps;
      form = c.push.ensures.form ∙ c.each.invariant.form;
      kept = c.read_record.ensures.kept ∙ c.each.invariant.kept;
    }
