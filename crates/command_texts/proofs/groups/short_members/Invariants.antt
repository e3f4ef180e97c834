use Rattle.std.proofs.Common.{◌≡◌, flat_map, take}
use Rattle.command_texts.specs.Groups.{short_of}
use Rattle.command_texts.proofs.groups.short_members.Given as goal

abbrev pub invariant-classes : goal.invariant-classes
invariant-classes l = l.short ≡ flat_map (short_of l.step) (take l.class-index l.classes)
