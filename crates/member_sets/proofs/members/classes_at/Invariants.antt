use Rattle.std.proofs.Common.{◌≡◌, map, take}
use Rattle.code_form.specs.Variant.{variant_of}
use Rattle.member_sets.specs.Members.{class_at}
use Rattle.member_sets.proofs.members.classes_at.Given as goal

abbrev pub invariant-loop-m : goal.invariant-loop-m
invariant-loop-m l = l.classes.items ≡ map (class_at (variant_of l.table) l.place.0 l.class_of) (take l.m-index l.members)
