-- Zeros and words behind the bytes of a buffer.
use Rattle.std.proofs.Common.{◌≡◌, ℕ, suc, ◌+◌, ◌-◌, ◌<◌, ◌/◌, ◌%◌, List, [], ◌∷◌, ◌++◌, length, replicate, refl, sym, ap, ◌∙◌, arith}
use Rattle.std.proofs.lemmas.List.{append_assoc, append-nil, replicate_more, length-append}
use Rattle.type_layout.specs.Layout.{round_up}
use Rattle.ir_rules.specs.Memory.{little_endian, padded}

pub zero-more : (old new start : List ℕ) (i : ℕ) → old ≡ start ++ replicate i 0 → new ≡ old ++ 0 ∷ [] → new ≡ start ++ replicate (i + 1) 0
zero-more old new start i h e =
    e ∙ ap (λ (l : List ℕ). l ++ 0 ∷ []) h ∙ append_assoc start (replicate i 0) (0 ∷ []) ∙ ap (λ (l : List ℕ). start ++ l) (replicate_more i 0)

pub word-more : (old new whole : List ℕ) (size i rest : ℕ) → i < size → new ≡ old ++ (rest % 256) ∷ [] → old ++ little_endian (size - i) rest ≡ whole
    → new ++ little_endian (size - (i + 1)) (rest / 256) ≡ whole
word-more old new whole size i rest l e h =
    let more : size - i ≡ suc (size - (i + 1)) = omega arith in
    let tail = little_endian (size - (i + 1)) (rest / 256) in
    ap (λ (l : List ℕ). l ++ tail) e ∙ append_assoc old ((rest % 256) ∷ []) tail ∙ ap (λ (k : ℕ). old ++ little_endian k rest) (sym more) ∙ h

pub word-done : (bytes whole : List ℕ) (size i rest : ℕ) → i ≡ size → bytes ++ little_endian (size - i) rest ≡ whole → bytes ≡ whole
word-done bytes whole size i rest e h =
    let none : size - i ≡ 0 = omega arith in
    sym (append-nil bytes) ∙ ap (λ (k : ℕ). bytes ++ little_endian k rest) (sym none) ∙ h

pub gap-is : (done align : ℕ) → (align - done % align) % align ≡ round_up done align - done
gap-is done align = omega arith

-- ---- structs

-- bytes behind a place are padded as by themselves
pub padded-behind : (front bytes : List ℕ) (n start : ℕ) → start ≡ length front
    → (front ++ bytes) ++ replicate (n - (length (front ++ bytes) - start)) 0 ≡ front ++ padded n bytes
padded-behind front bytes n start e =
    let long = length-append front bytes in
    let same : n - (length (front ++ bytes) - start) ≡ n - length bytes = omega arith in
    ap (λ (k : ℕ). (front ++ bytes) ++ replicate k 0) same ∙ append_assoc front bytes (replicate (n - length bytes) 0)

pub field-behind : (front bytes own mid new : List ℕ) (align start : ℕ) → start ≡ length front
    → mid ≡ (front ++ bytes) ++ replicate (round_up (length (front ++ bytes) - start) align - (length (front ++ bytes) - start)) 0 → new ≡ mid ++ own
    → new ≡ front ++ (padded (round_up (length bytes) align) bytes ++ own)
field-behind front bytes own mid new align start e m f =
    let long = length-append front bytes in
    let same : length (front ++ bytes) - start ≡ length bytes = omega arith in
    f ∙ ap (λ (l : List ℕ). l ++ own)
    (m ∙ ap (λ (k : ℕ). (front ++ bytes) ++ replicate (round_up k align - (length (front ++ bytes) - start)) 0) same
    ∙ padded-behind front bytes (round_up (length bytes) align) start e)
    ∙ append_assoc front (padded (round_up (length bytes) align) bytes) own
