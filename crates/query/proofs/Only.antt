-- An accepted query is the writing of what it asks: no other bytes ask the same. Assumes nothing.
use Prim.Native.Nat.{ℕ, zero, suc, ◌+◌, ◌≤◌}
use native.Mathlib.Omega.{arith}
use mathlib.Core.Path.{◌≡◌, sym, ap, ◌∙◌}
use mathlib.Core.List.{List, [], ◌∷◌, ◌++◌}
use mathlib.Core.Bool.{true}
use borrow.Author.Tests.{eqb-true}
use lib.ListN.{length, take, drop, length-drop}
use lib.Seq.{take-add, take_at, drop-drop}
use Rattle.model.specs.Outcome.{done}
use Rattle.model.specs.Runs.{Bytes}
use Rattle.model.proofs.Lists.{bytes_drop, split, and-true}
use Rattle.wire.specs.Number.{num, be}
use Rattle.wire.specs.Field.{whole, field_len, field_value, field_bytes}
use Rattle.wire.proofs.Numbers.{be-num, be-length}
use Rattle.wire.proofs.Fields.{field-only}
use Rattle.query.specs.Query.{Question, tag_k, tag_term, is_field, asked_in, terms_in, term_at, question, term_count, field_count, asked, term_bytes, question_bytes}
use Rattle.std.specs.Prelude.{Ok, Err}
use Rattle.query.proofs.Parts.{is-field-room, count-size}
use Rattle.query.proofs.Accepted.{Accepted, accepted}

be-take : (n : ℕ) (l : List ℕ) → Bytes l → n ≤ length l → take n l ≡ be n (num n l)
be-take n l b h = ap {B = List ℕ} (λ y. take n y) (sym (be-num n l b h)) ∙ take_at (be n (num n l)) (drop n l) n (be-length n (num n l))

field-parts : (tag n : ℕ) (s : List ℕ) → Bytes s → is_field tag n s ≡ true → field_bytes tag (take n (drop 3 s)) ++ drop (3 + n) s ≡ s
unfolding is_field field_value
field-parts tag n s b e =
    let a = and-true (whole tag s) _ e in
    rw (eqb-true (field_len s) n a.1) at (field-only tag s b a.0)

k-only : (s : List ℕ) → Bytes s → is_field tag_k 1 s ≡ true → field_bytes tag_k (be 1 (num 1 (drop 3 s))) ++ drop 4 s ≡ s
k-only s b e =
    let room : 1 ≤ length (drop 3 s) = simp length-drop (omega (arith, is-field-room tag_k 1 s e)) in
    rw (← be-take 1 (drop 3 s) (bytes_drop 3 s b) room) (field-parts tag_k 1 s b e)

term-only : (s : List ℕ) → Bytes s → is_field tag_term 5 s ≡ true → field_bytes tag_term (be 4 (asked_in s).term ++ be 1 (asked_in s).weight) ++ drop 8 s ≡ s
term-only s b e =
    let size = is-field-room tag_term 5 s e in
    let four : 4 ≤ length (drop 3 s) = simp length-drop (omega arith) in
    let one : 1 ≤ length (drop 7 s) = simp length-drop (omega arith) in
    let parts : take 5 (drop 3 s) ≡ take 4 (drop 3 s) ++ take 1 (drop 7 s) = take-add 4 1 (drop 3 s) ∙ rw (drop-drop 4 3 s) in
    rw (← be-take 4 (drop 3 s) (bytes_drop 3 s b) four, ← be-take 1 (drop 7 s) (bytes_drop 7 s b) one, ← parts) (field-parts tag_term 5 s b e)

terms-only : (fuel n j : ℕ) (l : List ℕ) → Bytes l → term_count fuel n l ≡ Ok (n + j) → term_bytes (terms_in j l) ≡ l
unfolding term_count terms_in term_bytes
terms-only zero n j [] b e = let z : j ≡ 0 = omega (arith, count-size zero n [] (n + j) e) in rw z
terms-only (suc fuel) n j [] b e = let z : j ≡ 0 = omega (arith, count-size (suc fuel) n [] (n + j) e) in rw z
terms-only zero n j (x ∷ l) b e = let z : ◌≡◌ {A = ℕ} 0 1 = cc in absurd (omega arith)
terms-only (suc fuel) n zero (x ∷ l) b e = absurd (omega (arith, count-size (suc fuel) n (x ∷ l) (n + 0) e))
terms-only (suc fuel) n (suc j) (x ∷ l) b e =
    split (is_field tag_term 5 (x ∷ l))
    (λ w.
    let f : term_count fuel (n + 1) (drop 8 (x ∷ l)) ≡ Ok (n + suc j) = rw w at e in
    let g : n + suc j ≡ n + 1 + j = omega arith in
    rw (terms-only fuel (n + 1) j (drop 8 (x ∷ l)) (bytes_drop 8 (x ∷ l) b) (f ∙ ap Ok g)) (term-only (x ∷ l) b w))
    (λ w.
    let f : Err (term_at n) ≡ Ok (n + suc j) = rw w at e in
    let z : ◌≡◌ {A = ℕ} 0 1 = cc in
    absurd (omega arith))

fields_only : (s : List ℕ) (n : ℕ) → Bytes s → field_count s ≡ Ok n → question_bytes (question (num 1 (drop 3 s)) n s) ≡ s
unfolding field_count question_bytes
fields_only s n b e =
    split (is_field tag_k 1 s)
    (λ w.
    let f : term_count (length s) 0 (drop 4 s) ≡ Ok n = rw w at e in
    let g : n ≡ 0 + n = omega arith in
    rw (terms-only (length s) 0 n (drop 4 s) (bytes_drop 4 s b) (f ∙ ap Ok g)) (k-only s b w))
    (λ w.
    let f : Err 0 ≡ Ok n = rw w at e in
    let z : ◌≡◌ {A = ℕ} 0 1 = cc in
    absurd (omega arith))

-- an accepted query is what would be written for its question
pub asked-is-written : (s : List ℕ) (x : Question) → Bytes s → asked s ≡ done x → question_bytes x ≡ s
asked-is-written s x b e =
    let n = (accepted s x e).0 in
    let a : Accepted s x n = (accepted s x e).1 in
    rw (← a.says) (fields_only s n b a.counted)
