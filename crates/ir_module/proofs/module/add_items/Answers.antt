use Rattle.std.proofs.Common.{◌+◌, ◌++◌, Bool, false, List, length, refl, sym, ap, subst, ◌∙◌, append-nil}
use Rattle.std.proofs.lemmas.List.{drop_all}
use Rattle.ir_tree.specs.declared.item.Item.{Item}
use Rattle.ir_rules.specs.Types.{TypeDefs, type_defs, kind_of}
use Rattle.ir_rules.specs.Memory.{addresses_of}
use Rattle.ir_rules.specs.Modules.{functions_from, instrs_from, results_from}
use Rattle.ir_scopes.specs.Kinds.{kind_in}
use Rattle.ir_pass.specs.declared.frame.Frame.{Frame}
use Rattle.ir_pass.specs.Heads.{opened}
use Rattle.ir_pass.specs.Frames.{left}
use Rattle.ir_pass.proofs.Heads.{Stands, begun}
use Rattle.ir_module.specs.declared.parts.Parts.{Parts}
use Rattle.ir_module.specs.Parts.{with_code, CanCode}
use Rattle.ir_module.proofs.Turns.{IsSoFar, goes-on, can-code, dropped, there, frame-at, passes}
use Rattle.ir_module.proofs.Turns as turns
use Rattle.ir_module.proofs.module.add_items.Goals as goal

pub each-init : goal.each-init
each-init c =
    let items = c.args.items.now in
    let signs = c.args.tables.now.ports.now in
    let kind = kind_in c.args.tables.now.kinds.now.names in
    record {
      stands = subst (λ (f : Frame). Stands kind items 0 false f) (sym c.requires.frame) (begun kind items);
      defs = c.requires.types;
      so_far = subst (λ (p : Parts). IsSoFar items signs 0 p) (sym c.requires.parts) (turns.begun items signs);
    }

pub add_item-requires-clause-can : goal.add_item-requires-clause-can
add_item-requires-clause-can c =
    let items = c.args.items.now in
    let t = c.args.tables.now in
    let signs = t.ports.now in
    let kind = kind_in t.kinds.now.names in
    let i = c.each.i in
    let x = c.index-items-i.result in
    let f = c.enter.new.frame in
    let d = dropped items kind c.requires.kinds i x c.each-test.true c.index-items-i.is c.each.inside c.each.frame f c.each.invariant.stands c.in_ok-enter.ensures in
    let get = there items kind c.requires.kinds i x c.each-test.true c.index-items-i.is c.each.inside c.each.frame f c.each.invariant.stands c.in_ok-enter.ensures in
    let at =
    frame-at items kind c.requires.kinds i x c.each-test.true c.index-items-i.is c.each.inside c.each.frame f c.each.invariant.stands c.in_ok-enter.ensures
    signs t refl c.requires.entities c.requires.addresses in
    subst (λ (ds : TypeDefs). CanCode ds c.each.parts f x) (sym c.each.invariant.defs)
    (can-code items signs t f i refl c.requires.entities c.requires.addresses c.requires.whole c.requires.faultless c.requires.few c.each.parts x at d get
    c.each.invariant.so_far)

pub add_item-requires-clause-kinds : goal.add_item-requires-clause-kinds
add_item-requires-clause-kinds c = c.requires.kinds ∙ ap kind_of (sym c.each.invariant.defs)

pub each-preserved : goal.each-preserved
each-preserved c =
    let items = c.args.items.now in
    let t = c.args.tables.now in
    let signs = t.ports.now in
    let kind = kind_in t.kinds.now.names in
    let i = c.each.i in
    let x = c.index-items-i.result in
    let f = c.enter.new.frame in
    let d = dropped items kind c.requires.kinds i x c.each-test.true c.index-items-i.is c.each.inside c.each.frame f c.each.invariant.stands c.in_ok-enter.ensures in
    let at =
    frame-at items kind c.requires.kinds i x c.each-test.true c.index-items-i.is c.each.inside c.each.frame f c.each.invariant.stands c.in_ok-enter.ensures
    signs t refl c.requires.entities c.requires.addresses in
    let on = passes items kind c.requires.kinds i x c.each-test.true c.index-items-i.is c.each.inside c.each.frame f c.each.invariant.stands c.in_ok-enter.ensures in
    record {
      stands =
          subst (λ (f : Frame). Stands kind items (i + 1) c.opens-inside.result f) (sym c.leave.ensures)
          (subst (λ (b : Bool). Stands kind items (i + 1) b (left b c.step.new.frame x)) (sym c.opens-inside.ensures)
          (subst (λ (f : Frame). Stands kind items (i + 1) (opened c.each.inside x) (left (opened c.each.inside x) f x)) (sym c.in_ok-step.ensures) on));
      defs = c.in_ok-add_item.ensures.defs ∙ c.each.invariant.defs;
      so_far =
          subst (λ (p : Parts). IsSoFar items signs (i + 1) p)
          (sym (c.in_ok-add_item.ensures.parts ∙ ap (λ (ds : TypeDefs). with_code ds t c.each.parts f x) c.each.invariant.defs))
          (goes-on items signs t f i refl c.requires.entities c.requires.addresses c.each.parts x at d c.each.invariant.so_far);
    }

pub returns-clause-funcs : goal.returns-clause-funcs
returns-clause-funcs c =
    let items = c.args.items.now in
    let p = c.each.parts in
    sym (append-nil p.funcs)
    ∙ ap (λ (l : List Item). p.funcs ++ functions_from (type_defs items) (length p.instrs) l) (sym (drop_all c.each.i items c.each-test.false))
    ∙ c.each.invariant.so_far.funcs

pub returns-clause-instrs : goal.returns-clause-instrs
returns-clause-instrs c =
    let items = c.args.items.now in
    let p = c.each.parts in
    let signs = c.args.tables.now.ports.now in
    sym (append-nil p.instrs)
    ∙ ap (λ (l : List Item). p.instrs ++ instrs_from items signs (addresses_of (type_defs items) items) c.each.i l) (sym (drop_all c.each.i items c.each-test.false))
    ∙ c.each.invariant.so_far.instrs

pub returns-clause-results : goal.returns-clause-results
returns-clause-results c =
    let items = c.args.items.now in
    let p = c.each.parts in
    let signs = c.args.tables.now.ports.now in
    sym (append-nil p.results)
    ∙ ap (λ (l : List Item). p.results ++ results_from items signs c.each.i l) (sym (drop_all c.each.i items c.each-test.false))
    ∙ c.each.invariant.so_far.results
