use Rattle.std.proofs.Common.{◌≡◌, ℕ, List, [], ◌∷◌, ◌++◌, map, sym, ap, subst, ◌∙◌, All, ◌+◌}
use Rattle.std.proofs.lemmas.List.{map-append}
use Rattle.std.proofs.lemmas.List.Elements.{All-push}
use Rattle.type_layout.specs.Layout.{round_up}
use Rattle.ir_rules.specs.Memory.{Global}
use Rattle.ir_memory.specs.Places.{placed}
use Rattle.ir_memory.specs.Inits.{PlacedIsSmall}
use Rattle.ir_memory.specs.declared.places.Placed.{Placed}
use Rattle.ir_memory.proofs.Initials.{small-type}
use Rattle.ir_memory.proofs.places.add_global.Goals as goal

pub room_of-requires : goal.room_of-requires
room_of-requires c = small-type c.args.types.now.defs c.args.global.1.now c.args.global.2.now c.requires.small
