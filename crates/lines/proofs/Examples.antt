-- By computation: where the paper's input of M1 and two others are split, and what a refusal prints. Assumes nothing.
use mathlib.Core.Path.{◌≡◌, refl}
use Prim.Native.Nat.{ℕ}
use mathlib.Core.List.{List, [], ◌∷◌, ◌++◌}
use Rattle.wire.specs.Number.{num}
use Rattle.wire.specs.Field.{whole, field_len}
use Rattle.lines.specs.Split.{of_query, size_in, query_size}
use Rattle.model.specs.Outcome.{refused}
use Rattle.lines.specs.Text.{codes, digits, decimal, numbers, line, text}

-- "Query `20 0001 01`, `21 0005 00000007 01`, `21 0005 00000009 02`." It is 20 bytes, and what comes past it is the shelf
pub k-field : List ℕ
k-field = 0x20 ∷ 0 ∷ 1 ∷ 1 ∷ []

pub term-field : ℕ → ℕ → List ℕ
term-field term weight = 0x21 ∷ 0 ∷ 5 ∷ 0 ∷ 0 ∷ 0 ∷ term ∷ weight ∷ []

pub query : List ℕ
query = k-field ++ (term-field 7 1 ++ term-field 9 2)

pub m1_split : query_size (query ++ (0x01 ∷ 0 ∷ 5 ∷ 0 ∷ 0 ∷ 0 ∷ 7 ∷ 2 ∷ [])) ≡ 20
unfolding query_size size_in of_query whole field_len num query k-field term-field
m1_split = refl

-- a field that is cut short begins the shelf, and one of a wrong length is the query's
pub cut-split : (query_size (k-field ++ (0x21 ∷ 0 ∷ 5 ∷ 0 ∷ [])) ≡ 4) × (query_size (k-field ++ (0x21 ∷ 0 ∷ 1 ∷ 7 ∷ [])) ≡ 8)
unfolding query_size size_in of_query whole field_len num k-field
cut-split = (refl, refl)

-- M6 stops with 8 at 40
pub m6_printed : text (refused 8 40) ≡ codes "R 8 40\n"
unfolding digits decimal numbers line
m6_printed = refl
