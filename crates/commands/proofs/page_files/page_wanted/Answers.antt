use Rattle.std.proofs.lemmas.Result.{IfOk-at_ok}
use Rattle.ports.specs.Asks.{answers_in}
use Rattle.instruction_list.specs.Lines.{lines_of}
use Rattle.commands.proofs.PageLemmas.{is_page, page_is_found, no_page}
use Rattle.commands.proofs.page_files.page_wanted.Goals as goal

pub returns-in-Err-clause-found : goal.returns-in-Err-clause-found
returns-in-Err-clause-found g c files full list texts =
    let s = c.args.s.now in
    no_page files (answers_in (g.P.Ports.outside c.args.ports).answers) s.m full s.suite s.listing.list list c.args.meter.now
    c.analyse_suite-ports.new.meter (g.P.Ports.outside c.args.ports).asked (g.P.Ports.outside c.analyse_suite-ports.result.0).asked
    c.analyse_suite-ports.ensures.meter_within c.analyse_suite-ports.ensures.asks_at_most

pub returns-clause-found : goal.returns-clause-found
returns-clause-found g c files full list texts =
    let s = c.args.s.now in
    no_page files (answers_in (g.P.Ports.outside c.args.ports).answers) s.m full s.suite s.listing.list list c.args.meter.now
    c.analyse_suite-ports.new.meter (g.P.Ports.outside c.args.ports).asked (g.P.Ports.outside c.analyse_suite-ports.result.0).asked
    c.analyse_suite-ports.ensures.meter_within c.analyse_suite-ports.ensures.asks_at_most

pub returns-in-Ok-page_of-clause-found : goal.returns-in-Ok-page_of-clause-found
returns-in-Ok-page_of-clause-found g c files full list texts =
    let s = c.args.s.now in
    let answers = answers_in (g.P.Ports.outside c.args.ports).answers in
    let found = c.analyse_suite-ports.ensures in
    let page = is_page s.m.code s.listing.list.variants answers s.suite (lines_of s.m.module.items) s.listing.list.rows s.listing.texts full.texts
    c.in-Ok.done c.in-Ok-page_of.text (IfOk-at_ok _ c.in-Ok.is found.done) texts c.in-Ok-page_of.ensures in
    page_is_found files answers s.m full s.suite s.listing.list list c.args.meter.now c.analyse_suite-ports.new.meter
    (g.P.Ports.outside c.args.ports).asked (g.P.Ports.outside c.analyse_suite-ports.result.0).asked c.in-Ok-page_of.text page
    (IfOk-at_ok _ c.in-Ok.is found.meter) (IfOk-at_ok _ c.in-Ok.is found.asks)

pub page_of-requires : goal.page_of-requires
page_of-requires g c = record { sums = IfOk-at_ok _ c.in-Ok.is c.analyse_suite-ports.ensures.sums }
