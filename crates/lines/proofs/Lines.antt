-- The lines: their parts, one after the other, and how long they are. Assumes nothing.
use Prim.Native.Nat.{ℕ, ◌+◌}
use native.Mathlib.Omega.{arith}
use mathlib.Core.Path.{◌≡◌, refl}
use mathlib.Core.List.{List, [], ◌∷◌, ◌++◌}
use borrow.Author.Tests.{eq-eqb, ne_eqb}
use lib.ListN.{length, length-append}
use Rattle.lines.specs.Text.{codes, numbers, line, interval_line}

module _ (letter ns end : List ℕ) where
  pub line-parts : letter ++ (numbers ns ++ end) ≡ line letter ns end
  unfolding line
  line-parts = refl

  pub line-size : length (line letter ns end) ≡ length letter + (length (numbers ns) + length end)
  unfolding line
  line-size = omega (arith, length-append letter (numbers ns ++ end), length-append (numbers ns) end)

-- ---- an interval's word

module _ (first last ceiling mark : ℕ) where
  pub opened-line : mark ≡ 1 → line (codes "I") (first ∷ last ∷ ceiling ∷ []) (codes " opened\n") ≡ interval_line first last ceiling mark
  opened-line e = rw (eq-eqb mark 1 e)

  pub skipped-line : (mark ≡ 1 → ⊥) → line (codes "I") (first ∷ last ∷ ceiling ∷ []) (codes " skipped\n") ≡ interval_line first last ceiling mark
  skipped-line e = rw (ne_eqb mark 1 e)
