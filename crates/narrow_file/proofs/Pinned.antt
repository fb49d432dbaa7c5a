-- No two answers say the same (refusals, specs/Pinned). Assumes nothing.
use mathlib.Core.Path.{◌≡◌, ap, ap₂, ◌∙◌}
use Prim.Native.Nat.{ℕ}
use Rattle.std.specs.Prelude.{Ok, Err}
use Rattle.refusals.specs.Pinned.{Pins}
use Rattle.refusals.specs.Said.{number_of}
use Rattle.refusals.specs.declared.refusal.Refusal.{Refusal}
use Rattle.refusals.proofs.Pinned.{refusal_pins}
use Rattle.narrow_file.specs.Narrow.{said}

pub said_pins : Pins said
said_pins (Ok a) (Ok b) e =
    let vars : a.vars ≡ b.vars = cc in
    let degree : a.degree ≡ b.degree = cc in
    let claim : a.claim ≡ b.claim = cc in
    ap₂ (λ (vars degree : ℕ). Ok (record { vars = vars; degree = degree; claim = a.claim })) vars degree
    ∙ ap (λ (claim : ℕ). Ok (record { vars = b.vars; degree = b.degree; claim = claim })) claim
said_pins (Ok a) (Err r) e = cc
said_pins (Err r) (Ok b) e = cc
said_pins (Err r) (Err s) e =
    let same : number_of r.refusal ≡ number_of s.refusal = cc in
    let line : r.line ≡ s.line = cc in
    ap₂ (λ (refusal : Refusal) (line : ℕ). Err (record { refusal = refusal; line = line })) (refusal_pins r.refusal s.refusal same) line
