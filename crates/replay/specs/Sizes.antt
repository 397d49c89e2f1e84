-- The bytes of the command that a letter begins, its letter among them, by docs/REPLAY.md.
-- Assumes nothing.
use Rattle.std.specs.Prelude.{ℕ, cond, eqb, Option, Some, None}

unfoldable pub size_of : ℕ → Option ℕ
size_of letter =
    cond (eqb letter 76) (Some 5)
    (cond (eqb letter 83) (Some 6)
    (cond (eqb letter 67) (Some 17)
    (cond (eqb letter 84) (Some 11)
    (cond (eqb letter 77) (Some 9)
    (cond (eqb letter 80) (Some 5)
    (cond (eqb letter 70) (Some 1)
    (cond (eqb letter 78) (Some 1)
    (cond (eqb letter 79) (Some 6)
    (cond (eqb letter 87) (Some 1)
    (cond (eqb letter 68) (Some 1) None))))))))))
