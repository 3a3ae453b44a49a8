use Rattle.lines.proofs.number.+put_number.Given as goal

-- proposed from what the function passes where it calls itself
abbrev pub decreases-put_number : goal.decreases-put_number
decreases-put_number l = l.n
