use Rattle.tez_record.specs.Field.{key}
use Rattle.tez_shares.proofs.ShareLemmas.{lines_whole, one_share}
use Rattle.tez_shares.proofs.shares_are_disjoint_and_whole.Goals as goal

pub returns-clause-lines : goal.returns-clause-lines
returns-clause-lines c = lines_whole

pub returns-clause-keys : goal.returns-clause-keys
returns-clause-keys c = λ cols parts base r. one_share cols parts base (key cols r)
