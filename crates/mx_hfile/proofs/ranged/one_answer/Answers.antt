use Rattle.mx_hfile.proofs.FooterLemmas.{footer_same, loaded_same, footer_is, loaded_is}
use Rattle.mx_hfile.proofs.RangeLemmas.{found_is, none_is, prefix_is}
use Rattle.mx_hfile.proofs.ranged.one_answer.Goals as goal

pub returns-clause-same_trailer : goal.returns-clause-same_trailer
returns-clause-same_trailer c = λ bytes t has. footer_same bytes t has

pub returns-clause-same_index : goal.returns-clause-same_index
returns-clause-same_index c = λ bytes t has. loaded_same bytes t has

pub returns-clause-trailer : goal.returns-clause-trailer
returns-clause-trailer c = λ es have. footer_is es have

pub returns-clause-index : goal.returns-clause-index
returns-clause-index c = λ es have. loaded_is es have

pub returns-clause-found : goal.returns-clause-found
returns-clause-found c = λ es key block have is. found_is es key block have is

pub returns-clause-none : goal.returns-clause-none
returns-clause-none c = λ es key have above. none_is es key have above

pub returns-clause-prefix : goal.returns-clause-prefix
returns-clause-prefix c = λ es b before after e prefix have split there begins. prefix_is es b before after e prefix have split there begins
