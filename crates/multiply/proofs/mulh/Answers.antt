use Rattle.multiply.proofs.ProductLaws.{products}
use Rattle.multiply.proofs.mulh.Goals as goal

pub returns : goal.returns
returns c = search products
