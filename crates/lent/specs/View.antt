-- A list shown in place: "as they stand in the lent shelf, without copying". Assumes nothing.
use Rattle.std.specs.Prelude.{ℕ, ◌+◌, ◌-◌, ◌≡◌, ⊤, List, take, drop, Result, Ok, Err}
use Rattle.std.specs.Borrow.{Bor}
use Rattle.model.specs.Outcome.{Outcome, refused, done}
use Rattle.model.specs.Refusal.{number}
use Rattle.model.specs.declared.refusal.Refusal.{Refusal}
use Rattle.shelf.specs.declared.walk.Place.{Place}
use Rattle.lookup.specs.Show.{Span, body_shown, ShownOf}
use Rattle.lent.specs.declared.view.BodyPart.{BodyPart}

-- the bytes between two places
abbrev pub bytes_of : List ℕ → Span → List ℕ
bytes_of s p = take (p.end - p.start) (drop p.start s)

-- a part of a slice: the same memory, from that place on
pub record IsPart (s : Bor (List ℕ)) (p : Span) (r : Bor (List ℕ)) : Type 0 where
  pub bytes : r.now ≡ bytes_of s.now p
  pub block : r.ref_ptr.0 ≡ s.ref_ptr.0
  pub place : r.ref_ptr.1 ≡ s.ref_ptr.1 + p.start

-- a body that is shown is that part of the shelf; or the refusal
abbrev pub Shows : Bor (List ℕ) → Outcome Span → Result BodyPart Refusal → Type 0
Shows s o (Ok b) = (o ≡ done b.at) × IsPart s b.at b.bytes
Shows s o (Err r) = o ≡ refused (number r.fault) r.offset

-- ---- the same where the error is the caller's own; `gives` says which error is made of a refusal

-- where the body stands; or the error
abbrev pub span_in : {E : Type 0} → Result BodyPart E → Result Span E
span_in (Ok b) = Ok b.at
span_in (Err e) = Err e

-- a body that is shown is that part of the shelf
abbrev pub PartIn : {E : Type 0} → Bor (List ℕ) → Result BodyPart E → Type 0
PartIn s (Ok b) = IsPart s b.at b.bytes
PartIn s (Err e) = ⊤

-- what is shown of block j of a view
pub record BodyOf {E : Type 0} (gives : Refusal → E → Type 0) (s : Bor (List ℕ)) (place : Result Place E) (j : ℕ) (r : Result BodyPart E) : Type 0 where
  pub span : ShownOf gives place (λ p. body_shown s.now (done p) j) (span_in r)
  pub part : PartIn s r
