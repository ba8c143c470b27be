use Rattle.std.proofs.Common.{subst}
use Rattle.mcs_book.specs.History.{IsLegal}
use Rattle.mcs_book.proofs.Books.LegalFair.{legal-fair}
use Rattle.mcs_kernel.proofs.kernel.Kernel.book.Goals as goal

pub returns-clause-fair : goal.returns-clause-fair
returns-clause-fair g c = legal-fair c.args.self.now (subst IsLegal c.self.view_is c.self.invariant.legal)
