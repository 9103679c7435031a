use Rattle.std.proofs.Common.{◌<◌, length, arith}
use Rattle.command_runs.proofs.ReadFiles.{file-failed, file-refused, file-text, sources-failed}
use Rattle.route_judge.proofs.ShortTexts.{short_text}
use Rattle.route_judge.specs.Limits.{number_limit}
use Rattle.judge_cli.proofs.JudgedFiles.{blocks-read, routes-refused}
use Rattle.judge_cli.proofs.judged_files.read_blocks.Goals as goal

pub returns-in_err-bytes-clause-reads : goal.returns-in_err-bytes-clause-reads
returns-in_err-bytes-clause-reads g c =
    sources-failed c.from_residual.result c.in_err-bytes.field-0.0 c.in_err-bytes.was c.from_residual.ensures.1
    (file-failed c.read_source.result c.in_err-bytes.was c.read_source.ensures.reads)

pub returns-in_err-read_block_list-clause-reads : goal.returns-in_err-read_block_list-clause-reads
returns-in_err-read_block_list-clause-reads g c =
    let text = c.in_ok-bytes.bytes.items in
    let read = c.in_ok-bytes.ensures in
    let refusal = rw c.as_slice.ensures.value at c.in_err-read_block_list.ensures.refusal in
    file-refused text c.from_residual-in_err-read_block_list.result _ read.reads read.bytes c.from_residual-in_err-read_block_list.ensures.1
    (routes-refused text c.in_err-read_block_list.field-0.0 read.short refusal)

pub returns-clause-reads : goal.returns-clause-reads
returns-clause-reads g c =
    let text = c.in_ok-bytes.bytes.items in
    let blocks = c.in_ok-read_block_list.field-0 in
    let read = c.in_ok-bytes.ensures in
    let is = rw c.as_slice.ensures.value at c.in_ok-read_block_list.ensures.blocks in
    file-text text _ read.reads read.bytes (λ q is. cc) (λ _. (blocks, blocks-read text blocks read.short is))

pub returns-clause-blocks : goal.returns-clause-blocks
returns-clause-blocks g c =
    let text = c.in_ok-bytes.bytes.items in
    let read = c.in_ok-bytes.ensures in
    let is = rw c.as_slice.ensures.value at c.in_ok-read_block_list.ensures.blocks in
    record { bytes = text; is_so = blocks-read text c.in_ok-read_block_list.field-0 read.short is; are_told = read.bytes }

pub returns-clause-judged : goal.returns-clause-judged
returns-clause-judged g c =
    let blocks = c.in_ok-read_block_list.field-0 in
    let read = c.in_ok-read_block_list.ensures in
    let bytes = c.in_ok-bytes.bytes.items in
    let short : length bytes < number_limit = omega (arith, c.in_ok-bytes.ensures.short) in
    short_text blocks (length bytes) read.range (rw c.as_slice.ensures.value at read.few) short
