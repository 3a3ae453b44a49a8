-- `lines::number::put_word` meets its contract: a run with a part written anew is that part stored. Assumes nothing.
use Prim.Native.Nat.{◌+◌, ◌-◌}
use native.Mathlib.Omega.{arith}
use mathlib.Core.List.{append_assoc}
use mathlib.Core.Path.{◌≡◌, refl}
use lib.ListN.{length}
use lib.Seq.{sets-eq, drop-drop}
use Rattle.lines.proofs.number.put_word.Goals as goal

pub returns : goal.returns
returns c =
    let a = c.args in
    let size : a.at + length a.word.now - a.at ≡ length a.word.now = omega arith in
    record {
      past = refl;
      whole = rw (c.copy_from_slice.ensures.after, size, drop-drop (length a.word.now) a.at a.out.now, sets-eq a.word.now a.out.now a.at c.requires, append_assoc);
    }
