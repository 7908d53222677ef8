-- What the tags and the groups say of every key: the test of each table is computed. Assumes nothing.
use Prim.Native.Nat.{ℕ}
use mathlib.Core.Path.{◌≡◌, refl, ap}
use lib.ListN.{length}
use Rattle.foundation.specs.Text.{key}
use Rattle.keys.specs.Table.{found}
use Rattle.keys.specs.Keys.{tags, tag_of, groups, group_of}
use Rattle.keys.specs.declared.GroupId.{GroupId}
use Rattle.keys.proofs.Tables.{Says, says}

-- each of the twenty-six keys is found with its tag, every other key gives 0, and a tag that is not 0 belongs to a listed key
pub tags_say : Says tags
unfolding found tags
tags_say = says tags tt

pub twenty_six : length tags ≡ 26
unfolding tags
twenty_six = refl

-- the same of the sixteen keys whose groups have a number
pub groups_say : Says groups
unfolding found groups
groups_say = says groups tt

pub sixteen : length groups ≡ 16
unfolding groups
sixteen = refl

-- different keys name different groups, for the key is kept
pub one_to_one : (j k : ℕ) → group_of j ≡ group_of k → j ≡ k
one_to_one j k e = ap (λ (g : GroupId). g.key) e

-- MAGN has a group's number and no tag, as in the Rust
pub magn : (tag_of (key "MAGN") ≡ 0) × ((group_of (key "MAGN")).number ≡ 4)
unfolding found tags groups
magn = (refl, refl)
