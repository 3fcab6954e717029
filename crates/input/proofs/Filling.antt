-- What a second read puts behind what is in a buffer.
use Rattle.std.proofs.Common.{◌≡◌, ℕ, ◌+◌, ◌≤◌, List, ◌++◌, length, take, sym, length-take-le}
use borrow.Rule.Slice.PartMut.{put_mid, post_of}
use lib.Seq.{take-append-add, take-append-le}

-- From the place a on, k places of xs are written over by ys. The first a + n places are then the first a ones and the first n of those.
pub front_after : (a k n : ℕ) (xs ys : List ℕ) → a ≤ length xs → n ≤ length ys → take a xs ++ take n ys ≡ take (a + n) (put_mid a k xs ys)
front_after a k n xs ys within fits =
    let long = length-take-le a xs within in
    let all = rw long at (take-append-add (take a xs) (ys ++ post_of a k xs) n) in
    sym (rw (take-append-le n ys (post_of a k xs) fits) at all)
