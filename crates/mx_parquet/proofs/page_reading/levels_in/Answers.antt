use Rattle.mx_parquet.proofs.PagesSay.{levels_found, bad_run}
use Rattle.mx_parquet.proofs.page_reading.levels_in.Goals as goal

pub returns-in-Ok : goal.returns-in-Ok
returns-in-Ok c = levels_found _ _ _ _ c.from_vec.ensures c.in-Ok.ensures.ok c.in-Ok.ensures.only

pub returns-in-Err-BadRun : goal.returns-in-Err-BadRun
returns-in-Err-BadRun c = λ ls decodes. bad_run _ _ c.in-Err-BadRun.field-0-is (c.in-Err-BadRun.ensures.only ls decodes)
