-- No two answers say the same (refusals, specs/Pinned). Assumes nothing.
use mathlib.Core.Path.{◌≡◌, refl, sym, ap, ap₂, ◌∙◌}
use Prim.Native.Nat.{ℕ}
use Rattle.std.specs.Prelude.{Ok, Err}
use Rattle.refusals.specs.Pinned.{Pins}
use Rattle.refusals.specs.Said.{number_of}
use Rattle.refusals.specs.declared.refusal.Refusal.{Refusal}
use Rattle.refusals.proofs.Pinned.{refusal_pins}
use Rattle.layout.specs.Bytes as bytes
use Rattle.file_line.specs.OneLine.{meant, said}
use Rattle.file_line.specs.declared.class.Class.{Class}
use Rattle.file_line.specs.declared.class.Class.TheVariants.{Digit, Comma, Equals, LineEnd, Letter, Other}

pub said_pins : Pins said
said_pins (Ok a) (Ok b) e =
    let last : a.last ≡ b.last = cc in
    let next : a.next ≡ b.next = cc in
    ap₂ (λ (last next : ℕ). Ok (record { last = last; next = next })) last next
said_pins (Ok a) (Err r) e = cc
said_pins (Err r) (Ok b) e = cc
said_pins (Err r) (Err s) e =
    let same : number_of r.refusal ≡ number_of s.refusal = cc in
    let line : r.line ≡ s.line = cc in
    ap₂ (λ (refusal : Refusal) (line : ℕ). Err (record { refusal = refusal; line = line })) (refusal_pins r.refusal s.refusal same) line

-- the class that is meant says which one is answered
abbrev back : bytes.Class → Class
back bytes.digit = Digit
back bytes.comma = Comma
back bytes.equals = Equals
back bytes.line_end = LineEnd
back bytes.letter = Letter
back bytes.other = Other

back-meant : (k : Class) → back (meant k) ≡ k
back-meant Digit = refl
back-meant Comma = refl
back-meant Equals = refl
back-meant LineEnd = refl
back-meant Letter = refl
back-meant Other = refl

pub meant_pins : Pins meant
meant_pins k l e = sym (back-meant k) ∙ (ap back e ∙ back-meant l)
