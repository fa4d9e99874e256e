-- By the contracts of `compile2` and `from`. Assumes nothing.
use Rattle.ccompile.proofs.Telling.{told}
use Rattle.ccompile.proofs.havzeltis_compile2.Goals as goal

pub returns : goal.returns
returns c = told c.compile2.ensures c.from.ensures
