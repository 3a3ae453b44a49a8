-- A list entered: the answers of the code, by what it tests. Assumes nothing.
use Prim.Native.Nat.{ℕ, ◌≤◌}
use mathlib.Core.Path.{◌≡◌}
use mathlib.Core.List.{List, []}
use native.Mathlib.Omega.{arith}
use lib.Dec.{eqb}
use lib.ListN.{get_or}
use borrow.Author.Tests.{eq-eqb, ne_eqb}
use Rattle.model.proofs.Lists.{split}
use Rattle.block.specs.Body.{right_body, body_run}
use Rattle.block.specs.declared.summary.Summary.{Summary}
use Rattle.scan.specs.Load.{Loads, head_of, wrong_body}
use Rattle.scan.specs.declared.head.Head.{Head}
use Rattle.std.specs.Prelude.{Result, Ok, Err, Some, None}
use Rattle.scan.specs.declared.load.WrongBody.{WrongBody}
use Rattle.opening.specs.Table.{gap, sum_in}
use Rattle.opening.specs.Enter.{bytes_in, Enters}
use Rattle.opening.specs.declared.enter.Entry.{Entry}

module _ (s los his tops counts bodies : List ℕ) (w t was m : ℕ) (h : Head) (ds ss : List ℕ) where
  pub enter-kept : m ≡ was → Enters s los his tops counts bodies w t was m h ds ss ds ss (record { head = h; fresh = 0; wrong = None })
  enter-kept e = record { answer = rw (eq-eqb m was e); docids = rw (eq-eqb m was e); scored = rw (eq-eqb m was e) }

  pub enter-gap : (g : Head) → (m ≡ was → ⊥) → m ≡ gap → g ≡ head_of w t [] → Enters s los his tops counts bodies w t was m h ds ss ds ss (record { head = g; fresh = 0; wrong = None })
  enter-gap g n e q = record { answer = rw (ne_eqb m was n, eq-eqb m gap e, q); docids = rw (ne_eqb m was n, eq-eqb m gap e); scored = rw (ne_eqb m was n, eq-eqb m gap e) }

  -- a block loaded by a summary and a body that the code has worked out
  module _ (n : m ≡ was → ⊥) (k : m ≡ gap → ⊥) (sum : Summary) (body ds' ss' : List ℕ) (r : Result Head WrongBody) (f : sum ≡ sum_in s los his tops counts bodies m) (b : body ≡ bytes_in s bodies m)
      (l : Loads sum body w t ds ss ds' ss' r) where
    loads : Loads (sum_in s los his tops counts bodies m) (bytes_in s bodies m) w t ds ss ds' ss' r
    loads = rw (f, b) at l

    pub enter_stands : (g : Head) → r ≡ Ok g → Enters s los his tops counts bodies w t was m h ds ss ds' ss' (record { head = g; fresh = 1; wrong = None })
    enter_stands g e =
        let own = sum_in s los his tops counts bodies m in
        let a = loads.answer in
        split (right_body own (bytes_in s bodies m))
        (λ x. let y : r ≡ Ok (head_of w t (body_run own (bytes_in s bodies m))) = rw x at a in
        let z : g ≡ head_of w t (body_run own (bytes_in s bodies m)) = cc in
        record {
          answer = rw (ne_eqb m was n, ne_eqb m gap k, x, z);
          docids = rw (ne_eqb m was n, ne_eqb m gap k) loads.docids;
          scored = rw (ne_eqb m was n, ne_eqb m gap k) loads.scored;
        })
        (λ x. let y : r ≡ Err wrong_body = rw x at a in let z : ◌≡◌ {A = ℕ} 0 1 = cc in absurd (omega arith))

    pub enter-wrong : (g : Head) → g ≡ head_of w t [] → r ≡ Err wrong_body → Enters s los his tops counts bodies w t was m h ds ss ds' ss' (record { head = g; fresh = 1; wrong = Some (get_or bodies m 0) })
    enter-wrong g q e =
        let own = sum_in s los his tops counts bodies m in
        let a = loads.answer in
        split (right_body own (bytes_in s bodies m))
        (λ x. let y : r ≡ Ok (head_of w t (body_run own (bytes_in s bodies m))) = rw x at a in let z : ◌≡◌ {A = ℕ} 0 1 = cc in absurd (omega arith))
        (λ x. record {
          answer = rw (ne_eqb m was n, ne_eqb m gap k, x, q);
          docids = rw (ne_eqb m was n, ne_eqb m gap k) loads.docids;
          scored = rw (ne_eqb m was n, ne_eqb m gap k) loads.scored;
        })

-- at most one block is loaded
pub enter-few : (s los his tops counts bodies : List ℕ) (w t was m : ℕ) (h : Head) (ds ss ds' ss' : List ℕ) (r : Entry) → Enters s los his tops counts bodies w t was m h ds ss ds' ss' r → r.fresh ≤ 1
enter-few s los his tops counts bodies w t was m h ds ss ds' ss' r en =
    rw en.answer
    (split (eqb m was)
    (λ e. rw e (omega arith))
    (λ e. split (eqb m gap)
    (λ g. rw (e, g) (omega arith))
    (λ g. split (right_body (sum_in s los his tops counts bodies m) (bytes_in s bodies m)) (λ x. rw (e, g, x) (omega arith)) (λ x. rw (e, g, x) (omega arith)))))
