-- Each step hands on what the next one asks for; rows, codes and residual follow from one another.
use Rattle.stage1.proofs.Whole.{inside, low_row_lem, high_row_lem, both_rows, both_codes, less_codes}
use Rattle.stage1.proofs.sns_quant_stage1.Goals as goal

pub first_stage_vector-requires : goal.first_stage_vector-requires
first_stage_vector-requires c = (inside _ _ c.first_least-ind_lf.ensures, inside _ _ c.first_least-ind_hf.ensures)

pub returns : goal.returns
returns c =
    let codebooks = c.new-codebooks.result in
    let lf = low_row_lem _ _ _ _ codebooks.low_is c.dmse_rows-dmse_lf.ensures c.first_least-ind_lf.ensures in
    let hf = high_row_lem _ _ _ _ codebooks.high_is c.dmse_rows-dmse_hf.ensures c.first_least-ind_hf.ensures in
    let st1 = c.first_stage_vector.ensures in
    record {
      value = both_rows _ _ _ lf hf;
      st1_after = both_codes _ _ _ lf hf _ st1;
      r1_after = less_codes _ _ _ lf hf _ st1 _ c.less.ensures;
    }
