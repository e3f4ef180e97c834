-- The table of the ports' names finds the first port with a name.
use Rattle.std.proofs.Common.{◌≡◌, ℕ, suc, ◌+◌, ◌<◌, Bool, true, false, List, [], ◌∷◌, ◌++◌, length, take, get_or, Option, Some, None, cond, refl, sym, ap, ◌∙◌, arith}
use Rattle.std.specs.List.{fold}
use Rattle.std.proofs.lemmas.List.{take_more, length-take-le}
use Rattle.std.proofs.lemmas.List.Sums.{fold-append}
use Rattle.code_form.specs.declared.instr.Callee.{Callee}
use Rattle.code_form.specs.declared.instr.Callee.TheVariants.{Port}
use Rattle.code_form.specs.declared.sign.PortSign.{PortSign}
use Rattle.ir_tree.specs.declared.name.Name.{Name}
use Rattle.ir_tree.specs.declared.name.Name.TheVariants.{Text}
use Rattle.ir_names.specs.Names.{same_name, defined, firsts, with_first}
use Rattle.ir_names.proofs.Defined.{same-sym}
use Rattle.ir_rules.specs.Calls.{is_text, port_from}
use Rattle.ir_call_rules.specs.Ports.{numbered}

pub numbered-last : (p : ℕ) (signs : List PortSign) (sign : PortSign) → numbered p (signs ++ sign ∷ []) ≡ numbered p signs ++ (Text sign.name, p + length signs) ∷ []
numbered-last p [] sign = let same : p ≡ p + 0 = omega arith in ap (λ n. (Text sign.name, n) ∷ []) same
numbered-last p (s ∷ signs) sign =
    let same : suc p + length signs ≡ p + suc (length signs) = omega arith in
    ap (λ l. (Text s.name, p) ∷ l) (numbered-last (suc p) signs sign)
    ∙ ap (λ n. (Text s.name, p) ∷ numbered (suc p) signs ++ (Text sign.name, n) ∷ []) same

-- one port more is the last one in the table
pub numbered-more : (signs : List PortSign) (i : ℕ) (x : PortSign) → i < length signs → x ≡ get_or signs i x
    → with_first (firsts (numbered 0 (take i signs))) (Text x.name, i) ≡ firsts (numbered 0 (take (i + 1) signs))
numbered-more signs i x h e =
    let long : length (take i signs) ≡ i = length-take-le i signs (omega arith) in
    let same : 0 + length (take i signs) ≡ i = omega arith in
    sym (
    ap (λ l. firsts (numbered 0 l)) (take_more signs i x h ∙ ap (λ y. take i signs ++ y ∷ []) (sym e))
    ∙ ap firsts (numbered-last 0 (take i signs) x)
    ∙ fold-append with_first [] (numbered 0 (take i signs)) ((Text x.name, 0 + length (take i signs)) ∷ [])
    ∙ ap (λ n. with_first (firsts (numbered 0 (take i signs))) (Text x.name, n)) same
    )

abbrev pub port_or_none : Option ℕ → Option Callee
port_or_none None = None
port_or_none (Some p) = Some (Port p)

-- the first port of a name by its number in the table
pub port-found : (p : ℕ) (signs : List PortSign) (name : List ℕ) → port_or_none (defined (numbered p signs) (Text name)) ≡ port_from p signs name
port-found p [] name = refl
port-found p (sign ∷ more) name =
    ap (λ b. port_or_none (cond b (Some p) (defined (numbered (suc p) more) (Text name)))) (same-sym (Text name) (Text sign.name))
    ∙ by (is_text sign.name name) (port-found (suc p) more name)
  where
    by : (b : Bool) → port_or_none (defined (numbered (suc p) more) (Text name)) ≡ port_from (suc p) more name
        → port_or_none (cond b (Some p) (defined (numbered (suc p) more) (Text name))) ≡ cond b (Some (Port p)) (port_from (suc p) more name)
    by true rest = refl
    by false rest = rest
