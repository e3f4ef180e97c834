use Rattle.std.proofs.Common.{◌≡◌, ℕ, nat_eq}
use Rattle.std.specs.List.{IsDistinct}
use Rattle.code_form.specs.Variant.{variant_of}
use Rattle.exec_core.specs.ClassTable.{IsAt, firsts}
use Rattle.member_sets.specs.Marks.{AreMarked}
use Rattle.exec_core.proofs.plan.variants_in.Given as goal

abbrev pub invariant-loop-m : goal.invariant-loop-m
invariant-loop-m l = let v : ℕ → ℕ = λ m. variant_of l.table m l.place.0 in record {
  variants : l.variants.items ≡ firsts v l.members l.at;
  distinct : IsDistinct nat_eq l.variants.items;
  marked : AreMarked l.variants.items l.marks.items;
  at : IsAt v l.members l.touched l.m-index l.at;
}
