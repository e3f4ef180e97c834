-- What a table of replacements says, read off the choices and the places.
use Rattle.std.proofs.Common.{◌≡◌, ◌≢◌, ℕ, zero, suc, ◌<◌, ◌≤◌, List, [], ◌∷◌, ◌++◌, length, map, get_or, set, refl, sym, ap, ◌∙◌, arith, slice_get, unwrap_or}
use Rattle.code_form.specs.declared.instr.Instr.{Instr}
use Rattle.code_form.specs.declared.replacements.Replacements.{Replacements}
use Rattle.code_form.specs.Replacements.{put_before, trimmed, mentioned_in, replacements_in, mutants_in, AreSame}

-- ---- what stands at a place

-- trimming changes no list
at-put_before : (l : List Instr) (more : List (List Instr)) (k : ℕ) → unwrap_or (slice_get (put_before l more) k) [] ≡ unwrap_or (slice_get (l ∷ more) k) []
at-put_before [] [] zero = refl
at-put_before [] [] (suc k) = refl
at-put_before [] (l ∷ more) k = refl
at-put_before (i ∷ is) more k = refl

at-trimmed : (ls : List (List Instr)) (k : ℕ) → unwrap_or (slice_get (trimmed ls) k) [] ≡ unwrap_or (slice_get ls k) []
at-trimmed [] k = refl
at-trimmed (l ∷ more) zero = at-put_before l (trimmed more) zero
at-trimmed (l ∷ more) (suc k) = at-put_before l (trimmed more) (suc k) ∙ at-trimmed more k

at-map : (places : List Replacements) (at : ℕ) (d : Replacements) → at < length places
    → unwrap_or (slice_get (map (λ (s : Replacements). s.instrs.keys) places) at) [] ≡ (get_or places at d).instrs.keys
at-map [] at d l = absurd (omega arith)
at-map (s ∷ more) zero d l = refl
at-map (s ∷ more) (suc at) d l = at-map more at d (omega arith)

pub replacements-at : (places : List Replacements) (at : ℕ) (d : Replacements) → at < length places
    → replacements_in places at ≡ (get_or places at d).instrs.keys
replacements-at places at d l = at-trimmed (map (λ (s : Replacements). s.instrs.keys) places) at ∙ at-map places at d l

map-past : (places : List Replacements) (at : ℕ) → length places ≤ at → unwrap_or (slice_get (map (λ (s : Replacements). s.instrs.keys) places) at) [] ≡ []
map-past [] at l = refl
map-past (s ∷ more) zero l = absurd (omega arith)
map-past (s ∷ more) (suc at) l = map-past more at (omega arith)

pub replacements-past : (places : List Replacements) (at : ℕ) → length places ≤ at → replacements_in places at ≡ []
replacements-past places at l = at-trimmed (map (λ (s : Replacements). s.instrs.keys) places) at ∙ map-past places at l

pub mutants-at : (places : List Replacements) (at : ℕ) (d : Replacements) → at < length places → mutants_in places at ≡ (get_or places at d).mutants.items
mutants-at [] at d l = absurd (omega arith)
mutants-at (s ∷ more) zero d l = refl
mutants-at (s ∷ more) (suc at) d l = mutants-at more at d (omega arith)

-- ---- one more place without replacements

trimmed-push : (ls : List (List Instr)) → trimmed (ls ++ [] ∷ []) ≡ trimmed ls
trimmed-push [] = refl
trimmed-push (l ∷ more) = ap (put_before l) (trimmed-push more)

mentioned-push : (places : List Replacements) (s : Replacements) → s.instrs.keys ≡ [] → mentioned_in (places ++ s ∷ []) ≡ mentioned_in places
mentioned-push [] s e = rw e refl
mentioned-push (t ∷ more) s e = ap (put_before t.instrs.keys) (mentioned-push more s e)

mutants-push : (places : List Replacements) (s : Replacements) (at : ℕ) → s.mutants.items ≡ [] → mutants_in (places ++ s ∷ []) at ≡ mutants_in places at
mutants-push [] s zero e = e
mutants-push [] s (suc at) e = refl
mutants-push (t ∷ more) s zero e = refl
mutants-push (t ∷ more) s (suc at) e = mutants-push more s at e

pub same-push : (places : List Replacements) (s : Replacements) → s.instrs.keys ≡ [] → s.mutants.items ≡ [] → AreSame places (places ++ s ∷ [])
same-push places s e f = record { mentioned = mentioned-push places s e; mutants = λ at. mutants-push places s at f }

pub same-refl : (places : List Replacements) → AreSame places places
same-refl places = record { mentioned = refl; mutants = λ at. refl }

pub same-trans : (a b c : List Replacements) → AreSame a b → AreSame b c → AreSame a c
same-trans a b c p q = record { mentioned = q.mentioned ∙ p.mentioned; mutants = λ at. q.mutants at ∙ p.mutants at }

-- ---- one place changed

pub mentioned-set : (places : List Replacements) (at : ℕ) (s d : Replacements) → at < length places → s.instrs.keys ≡ (get_or places at d).instrs.keys
    → mentioned_in (set places at s) ≡ mentioned_in places
mentioned-set [] at s d l e = absurd (omega arith)
mentioned-set (t ∷ more) zero s d l e = ap (λ r. put_before r (mentioned_in more)) e
mentioned-set (t ∷ more) (suc at) s d l e = ap (put_before t.instrs.keys) (mentioned-set more at s d (omega arith) e)

map-set-other : (places : List Replacements) (at q : ℕ) (s : Replacements) → q ≢ at
    → unwrap_or (slice_get (map (λ (s : Replacements). s.instrs.keys) (set places at s)) q) [] ≡ unwrap_or
    (slice_get (map (λ (s : Replacements). s.instrs.keys) places) q) []
map-set-other [] at q s ne = refl
map-set-other (t ∷ more) zero zero s ne = absurd (ne refl)
map-set-other (t ∷ more) zero (suc q) s ne = refl
map-set-other (t ∷ more) (suc at) zero s ne = refl
map-set-other (t ∷ more) (suc at) (suc q) s ne = map-set-other more at q s (λ e. ne (ap suc e))

pub replacements-set-other : (places : List Replacements) (at q : ℕ) (s : Replacements) → q ≢ at
    → replacements_in (set places at s) q ≡ replacements_in places q
replacements-set-other places at q s ne =
    at-trimmed (map (λ (s : Replacements). s.instrs.keys) (set places at s)) q ∙ map-set-other places at q s ne
    ∙ sym (at-trimmed (map (λ (s : Replacements). s.instrs.keys) places) q)

pub mutants-set-other : (places : List Replacements) (at q : ℕ) (s : Replacements) → q ≢ at → mutants_in (set places at s) q ≡ mutants_in places q
mutants-set-other [] at q s ne = refl
mutants-set-other (t ∷ more) zero zero s ne = absurd (ne refl)
mutants-set-other (t ∷ more) zero (suc q) s ne = refl
mutants-set-other (t ∷ more) (suc at) zero s ne = refl
mutants-set-other (t ∷ more) (suc at) (suc q) s ne = mutants-set-other more at q s (λ e. ne (ap suc e))

pub replacements-set : (places : List Replacements) (at : ℕ) (s : Replacements) → at < length places → replacements_in (set places at s) at ≡ s.instrs.keys
replacements-set places at s l = at-trimmed (map (λ (s : Replacements). s.instrs.keys) (set places at s)) at ∙ go places at s l
  where
    go : (places : List Replacements) (at : ℕ) (s : Replacements) → at < length places
        → unwrap_or (slice_get (map (λ (s : Replacements). s.instrs.keys) (set places at s)) at) [] ≡ s.instrs.keys
    go [] at s l = absurd (omega arith)
    go (t ∷ more) zero s l = refl
    go (t ∷ more) (suc at) s l = go more at s (omega arith)

pub mutants-set : (places : List Replacements) (at : ℕ) (s : Replacements) → at < length places → mutants_in (set places at s) at ≡ s.mutants.items
mutants-set [] at s l = absurd (omega arith)
mutants-set (t ∷ more) zero s l = refl
mutants-set (t ∷ more) (suc at) s l = mutants-set more at s (omega arith)
