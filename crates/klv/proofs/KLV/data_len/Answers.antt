-- `KLV::data_len` meets its contract: the product of a byte and 16 bits fits. Assumes nothing.
use native.Mathlib.Omega.{arith}
use Rattle.klv.proofs.Length.{product_bound}
use Rattle.klv.proofs.KLV.data_len.Goals as goal

pub overflow_mul-result : goal.overflow_mul-result
overflow_mul-result c = let bound = product_bound _ _ c.wide.ensures.1 c.wider.ensures.1 in omega arith

pub returns : goal.returns
returns c = (cc, product_bound _ _ c.wide.ensures.1 c.wider.ensures.1)
