use Rattle.std.proofs.Common.{◌≡◌, ◌++◌, flat_map, take}
use Rattle.command_texts.specs.Groups.{group_of}
use Rattle.command_texts.proofs.groups.put_groups.Given as goal

abbrev pub invariant-classes : goal.invariant-classes
invariant-classes l = l.out ≡ l.initial.out ++ flat_map (group_of l.step) (take l.class-index l.classes)
