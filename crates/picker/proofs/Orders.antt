-- The orders that pickers go by are orders.
use Rattle.std.proofs.Common.{arith}
use Rattle.std.proofs.lemmas.Bool.Decides.{nat_tests}
use Rattle.std.specs.Cmp.{IsStrictWeakOrder}
use Rattle.picker.specs.Order.{is_deeper, is_shallower, is_smaller}

pub deeper_orders : IsStrictWeakOrder is_deeper
deeper_orders = record { one_way = λ a b h. grind (arith, nat_tests); chain = λ a b c h i. grind (arith, nat_tests) }

pub shallower_orders : IsStrictWeakOrder is_shallower
shallower_orders = record { one_way = λ a b h. grind (arith, nat_tests); chain = λ a b c h i. grind (arith, nat_tests) }

pub smaller_orders : IsStrictWeakOrder is_smaller
smaller_orders = record { one_way = λ a b h. grind (arith, nat_tests); chain = λ a b c h i. grind (arith, nat_tests) }
