use Rattle.std.proofs.Common.{◌≡◌, List, ap, subst, ◌∙◌}
use Rattle.std.specs.Prelude.{IfOk}
use Rattle.exec_core.specs.declared.result.Work.{Work}
use Rattle.html_page.specs.Page.{page_text}
use Rattle.html_page.specs.declared.listed.Listed.{Listed}
use Rattle.instruction_list.specs.Lines.{lines_of}
use Rattle.instruction_list.specs.declared.line.Line.{Line}
use Rattle.ir_tokens.specs.Bytes.{Text}
use Rattle.mutant_records.specs.declared.list.MutantRow.{MutantRow}
use Rattle.commands.specs.Page.{listed_from}
use Rattle.commands.proofs.page_files.page_of.Goals as goal

pub returns : goal.returns
returns c =
    let s = c.args.s.now in
    let d = c.args.done.now in
    let all : c.as_slice-5.result.now ≡ listed_from s.listing.list.rows s.listing.texts 0 =
    c.as_slice-5.ensures ∙ c.in_ok-all.ensures ∙ ap (λ (rows : List MutantRow). listed_from rows c.as_slice-2.result.now 0) c.as_slice-rows.ensures
    ∙ ap (λ (ts : List Text). listed_from s.listing.list.rows ts 0) c.as_slice-2.ensures in
    let lines : c.as_slice-4.result.now ≡ lines_of s.m.module.items = c.as_slice-4.ensures ∙ c.in_ok-lines.ensures ∙ ap lines_of c.as_slice.ensures in
    subst (λ (t : Text). IfOk c.page.result (λ text. text ≡ t))
    (ap (λ (ws : List Work). page_text s.suite d.matrix ws c.as_slice-4.result.now c.as_slice-5.result.now) c.as_slice-3.ensures.value
    ∙ ap (λ (ls : List Line). page_text s.suite d.matrix d.works.items ls c.as_slice-5.result.now) lines
    ∙ ap (λ (xs : List Listed). page_text s.suite d.matrix d.works.items (lines_of s.m.module.items) xs) all) c.page.ensures
