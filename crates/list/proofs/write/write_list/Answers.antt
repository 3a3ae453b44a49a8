-- `list::write_list` meets its contract: a law for each answer. Assumes nothing.
use native.Mathlib.Omega.{arith}
use Prim.Native.Nat.{◌≤◌}
use lib.ListN.{length}
use Rattle.model.specs.Post.{postings}
use Rattle.list.specs.Write.{list_bytes}
use Rattle.list.proofs.Faults.{may_write, write_many, write_uneven, write-none, write-fault, write-short, write_done, gives-refused, gives-done}
use Rattle.list.proofs.write.write_list.Goals as goal

pub returns-then-n-gt-MAX_POSTINGS : goal.returns-then-n-gt-MAX_POSTINGS
returns-then-n-gt-MAX_POSTINGS c =
    let a = c.args in
    rw c.at.ensures (gives-refused _ a.out.now (write_many a.strip a.term a.docids.now a.scores.now _ (omega arith)))

pub returns-then-m-gt-MAX_POSTINGS : goal.returns-then-m-gt-MAX_POSTINGS
returns-then-m-gt-MAX_POSTINGS c =
    let a = c.args in
    rw c.at-then-m-gt-MAX_POSTINGS.ensures (gives-refused _ a.out.now (write_many a.strip a.term a.docids.now a.scores.now _ (omega arith)))

pub returns-then-n-m : goal.returns-then-n-m
returns-then-n-m c =
    let a = c.args in
    rw c.at-then-n-m.ensures (gives-refused _ a.out.now (write_uneven a.strip a.term a.docids.now a.scores.now _ (length a.docids.now) (omega arith) (λ e. omega arith) (omega arith)))

pub returns-then-m-n : goal.returns-then-m-n
returns-then-m-n c =
    let a = c.args in
    rw c.at-then-m-n.ensures (gives-refused _ a.out.now (write_uneven a.strip a.term a.docids.now a.scores.now _ (length a.scores.now) (omega arith) (λ e. omega arith) (omega arith)))

pub returns-then-n-eq0 : goal.returns-then-n-eq0
returns-then-n-eq0 c =
    let a = c.args in
    rw c.at-then-n-eq0.ensures (gives-refused _ a.out.now (write-none a.strip a.term a.docids.now a.scores.now _ (omega arith) (omega arith) (omega arith)))

pub returns-then-fault-n : goal.returns-then-fault-n
returns-then-fault-n c =
    let a = c.args in
    rw c.at-then-fault-n.ensures (gives-refused _ a.out.now (write-fault a.strip a.term a.docids.now a.scores.now _ (omega arith) (omega arith) (λ e. omega arith) _ c.first_fault-fault.ensures (omega arith)))

pub list_len-size-requires : goal.list_len-size-requires
list_len-size-requires c =
    let a = c.args in
    may_write a.docids.now a.scores.now (omega arith) (omega arith) (omega arith) (omega (arith, c.first_fault-fault.ensures))

pub returns-then-out-size : goal.returns-then-out-size
returns-then-out-size c =
    let a = c.args in
    rw c.at-then-out-size.ensures (gives-refused _ a.out.now (write-short a.strip a.term a.docids.now a.scores.now _ (omega arith) (omega arith) (λ e. omega arith) (omega (arith, c.first_fault-fault.ensures)) (omega (arith, c.list_len-size.ensures a.strip a.term))))

pub put_list-requires : goal.put_list-requires
put_list-requires c =
    let a = c.args in
    (may_write a.docids.now a.scores.now (omega arith) (omega arith) (omega arith) (omega (arith, c.first_fault-fault.ensures)), omega (arith, c.list_len-size.ensures a.strip a.term))

pub returns : goal.returns
returns c =
    let a = c.args in
    let fits : length (list_bytes a.strip a.term (postings a.docids.now a.scores.now)) ≤ length a.out.now = omega (arith, c.list_len-size.ensures a.strip a.term) in
    gives-done (write_done a.strip a.term a.docids.now a.scores.now _ (omega arith) (omega arith) (λ e. omega arith) (omega (arith, c.first_fault-fault.ensures)) fits) fits c.put_list.ensures
