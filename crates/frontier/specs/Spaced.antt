-- Where the repeaters of a wire stand that are as far apart as they may be.
use Rattle.std.specs.Prelude.{ℕ, zero, suc, ◌+◌, ◌-◌, min, List, [], ◌∷◌}
use Rattle.frontier.specs.Cell.{Cell}

-- the offsets of r repeaters on a wire of size w, from the offset `at` on, where b hangs: each as high as it may be
unfoldable pub spread : Cell → ℕ → ℕ → ℕ → ℕ → List ℕ
spread τ w at b zero = []
spread τ w at b (suc r) = min w (at + (τ.cu - b)) ∷ spread τ w (min w (at + (τ.cu - b))) τ.cb r

-- r offsets on a wire of size w, the first at o and each d further
unfoldable pub steps : ℕ → ℕ → ℕ → ℕ → List ℕ
steps w d o zero = []
steps w d o (suc r) = o ∷ steps w d (min w (o + d)) r
