-- An address whose bucket is not used is not listed.
use Rattle.locator_set.proofs.Earlier.{not_listed}
use Rattle.locator_set.proofs.is_twice.Goals as goal

pub returns-else-used-bucket_of : goal.returns-else-used-bucket_of
returns-else-used-bucket_of c = not_listed _ _ _ _ c.bucket_of.ensures.0 c.requires c.if-used-bucket_of.false
