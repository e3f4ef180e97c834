-- The orders that pickers go by. In each, ties go to the lower `least`.
--     is_deeper       the offer has the greater step
--     is_shallower    the offer has the lower step
--     is_smaller      the offer has fewer members
use Rattle.std.specs.Prelude.{Bool, ◌&&◌, ◌||◌, ◌==◌, nat_lt}
use Rattle.picker.specs.declared.picker.Offer.{Offer}

abbrev pub is_deeper : Offer → Offer → Bool
is_deeper a b = nat_lt b.step a.step || (a.step == b.step && nat_lt a.least b.least)

abbrev pub is_shallower : Offer → Offer → Bool
is_shallower a b = nat_lt a.step b.step || (a.step == b.step && nat_lt a.least b.least)

abbrev pub is_smaller : Offer → Offer → Bool
is_smaller a b = nat_lt a.members b.members || (a.members == b.members && nat_lt a.least b.least)
