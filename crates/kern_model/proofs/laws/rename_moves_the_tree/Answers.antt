use Rattle.kern_model.proofs.RenameLaws.{bytes_stay, below_new, below_old, elsewhere}
use Rattle.kern_model.proofs.laws.rename_moves_the_tree.Goals as goal

pub returns-clause-bytes : goal.returns-clause-bytes
returns-clause-bytes c = λ s t pid old new node m. bytes_stay s t pid old new m node

pub returns-clause-below_new : goal.returns-clause-below_new
returns-clause-below_new c = λ s t pid old new path rest m parents e. below_new s t pid old new m parents path rest e

pub returns-clause-below_old : goal.returns-clause-below_old
returns-clause-below_old c = λ s t pid old new path m parents e. below_old s t pid old new m parents path e

pub returns-clause-elsewhere : goal.returns-clause-elsewhere
returns-clause-elsewhere c = λ s t pid old new path m parents e f. elsewhere s t pid old new m parents path e f
