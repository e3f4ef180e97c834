use Rattle.std.proofs.Common.{[], refl, sym, subst}
use Rattle.ir_scopes.specs.Kinds.{kind_in}
use Rattle.ir_pass.specs.declared.frame.Frame.{Frame}
use Rattle.ir_pass.specs.Frames.{Holds, no_frame}
use Rattle.ir_replacements.proofs.places.frame_of.Goals as goal

pub returns : goal.returns
returns c =
    let kind = kind_in c.args.kinds.now.names in
    let none : Holds kind [] [] no_frame = record { function = refl; sources = λ b. refl; result = refl; before = refl } in
    let holds = c.in_ok-enter.ensures [] [] (subst (λ (f : Frame). Holds kind [] [] f) (sym c.closed_frame-frame.ensures) none) in
    record { function = holds.function; result = holds.result }
